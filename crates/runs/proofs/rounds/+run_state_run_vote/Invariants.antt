-- "The state round hands over to the vote round, and the vote round back with a later phase": two to a phase that is left.
use Prim.Native.Nat.{◌+◌, ◌*◌}
use Rattle.runs.proofs.rounds.+run_state_run_vote.Given as goal

abbrev pub decreases-run_state : goal.decreases-run_state
decreases-run_state l = 2 * l.left + 1

abbrev pub decreases-run_vote : goal.decreases-run_vote
decreases-run_vote l = 2 * l.left
