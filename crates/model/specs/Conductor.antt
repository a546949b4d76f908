-- Document 02, "The conductor": which racks it takes, and the steps that it makes on one.
use Rattle.std.specs.Prelude.{ℕ, zero, suc, Bool, not, ◌&&◌, ◌||◌, List, [], ◌∷◌, ◌++◌, leb, ltb, eqb}
use Rattle.model.specs.Types.{Numbers, ReplicaId, Idle, Proposals, States, Votes, Notices, LogFull, NothingPending, NotLevel}
use Rattle.model.specs.Types.{TooFewRunning, Act, Relay, Begin, Hear, Advance, Step}
use Rattle.model.specs.Tests.{if, count, any}
use Rattle.model.specs.Rack.{same_round, sort_number, is_sent, Rack}
use Rattle.model.specs.TurnedAway.{Ground, ◌when◌}
use Rattle.model.specs.Rules.{first_of, pending, quorum}

-- ---- the steps of some replicas

-- the steps of each of the first k numbers that pass a test: "all in number order"
unfoldable pub for_each : ℕ → (ℕ → Bool) → (ℕ → List Step) → List Step
for_each zero ok steps = []
for_each (suc k) ok steps = for_each k ok steps ++ if (ok k) (steps k) []

abbrev pub numbered : ℕ → ReplicaId
numbered c = record { 0 = c }

-- replica c does this, and nothing else
abbrev pub does : Act → ℕ → List Step
does a c = record { who = numbered c; act = a } ∷ []

-- to hear the message of d, by the number of its sort
abbrev pub hear : ℕ → ℕ → ℕ → ℕ → Act
hear so s p d = Hear (record { sort = so; slot = record { 0 = s }; phase = record { 0 = p }; sender = numbered d })

-- of those among the first n that are lit, in slot s
module _ (n : ℕ) (lit : ℕ → Bool) (s : ℕ) where
  -- replica c hears each other
  abbrev pub hear_steps : ℕ → ℕ → ℕ → List Step
  hear_steps so p c = for_each n (λ d. lit d && not (eqb d c)) (λ d. does (hear so s p d) c)

  -- "each lit one hears each other, then each advances, all in number order"
  abbrev pub round_steps : ℕ → ℕ → List Step
  round_steps so p = for_each n lit (hear_steps so p) ++ for_each n lit (does Advance)

  -- "phase 1's state and vote rounds, and no further"
  abbrev pub phase_steps : List Step
  phase_steps = round_steps (sort_number States) 1 ++ round_steps (sort_number Votes) 1

  -- "then begins all; in the exchange and in phase 1's state and vote rounds". "It hears no notices."
  unfoldable pub slot_steps : List Step
  slot_steps = for_each n lit (does Begin) ++ (round_steps (sort_number Proposals) 0 ++ phase_steps)

module _ (N : Numbers) (r : Rack) where
  open N use {n, slots, phases}

  -- ---- the rack that it takes

  -- a replica that has not crashed [lit]
  abbrev pub is_running : ℕ → Bool
  is_running c = not (r.at c).crashed

  -- L
  abbrev pub running_count : ℕ
  running_count = count n is_running

  -- the current slot of the last running replica among the first k; where all are at one slot, that slot
  unfoldable pub slot_among : ℕ → ℕ
  slot_among zero = 0
  slot_among (suc k) = if (is_running k) (r.at k).closed (slot_among k)

  abbrev pub common_slot : ℕ
  common_slot = slot_among n

  -- a running replica that is in a round, or at another slot
  abbrev pub uneven : ℕ → ℕ → Bool
  uneven s c = is_running c && not (same_round (r.at c).round Idle && eqb (r.at c).closed s)

  -- a replica has sent a message of a slot
  abbrev pub spoke : ℕ → ℕ → Bool
  spoke s d =
      (is_sent (r.sent Proposals s 0 d) || is_sent (r.sent Notices s 0 d))
      || any phases (λ p. is_sent (r.sent States s (suc p) d) || is_sent (r.sent Votes s (suc p) d))

  -- "a rack whose L lit controllers are all idle at the same slot, where nobody, dark or lit, has sent a message of that slot"
  abbrev pub level : ℕ → Bool
  level s = not (any n (uneven s)) && not (any n (spoke s))

  -- "pending at any lit controller"
  abbrev pub pending_somewhere : ℕ → Bool
  pending_somewhere x = any n (λ c. is_running c && pending (r.at c) x)

  -- "the smallest tag pending at any lit controller", now "the first-ranked tag"; 0 if there is none
  abbrev pub common_tag : ℕ
  common_tag = first_of pending_somewhere r.known

  -- "23 "too few lit" below the quota, 22 "not level" if the starting condition fails, 11, 12, in this order."
  abbrev pub conduct_refusals : List Ground
  conduct_refusals =
      TooFewRunning when ltb running_count (quorum N) ∷ NotLevel when not (level common_slot) ∷ LogFull when leb slots common_slot
      ∷ NothingPending when eqb common_tag 0 ∷ []

  -- ---- its steps

  -- "the lit ones that lack it"
  abbrev pub lacks : ℕ → ℕ → Bool
  lacks x c = is_running c && not ((r.at c).held x)

  -- "It relays" that tag "to the lit ones that lack it"
  unfoldable pub relay_steps : List Step
  relay_steps = for_each n (lacks common_tag) (does (Relay common_tag))

  -- the steps besides the relays
  unfoldable pub conduct_steps : List Step
  conduct_steps = slot_steps n is_running common_slot
