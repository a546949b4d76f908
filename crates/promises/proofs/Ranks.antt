-- Document 02, Point 5, in its words: which of two tags ranks first, and that begin and the conductor take the first-ranked one.
use Rattle.std.specs.Prelude.{ℕ, Bool, not, List, ◌≢◌}
use Rattle.std.proofs.Common.{◌∙◌, ap}
use Rattle.model.specs.declared.Numbers.{Numbers}
use Rattle.model.specs.Rack.{Replica, Rack}
use Rattle.model.specs.Rules.{first_of, pending, next_tag}
use Rattle.model.specs.Conductor.{pending_somewhere, common_tag}
use Rattle.model.proofs.FirstTag.{first_of_is, first_of_leads}
use Rattle.promises.specs.Ranks.{FirstRanked, one_ahead}

first_ranked : (ok : ℕ → Bool) (xs : List ℕ) → first_of ok xs ≢ 0 → FirstRanked ok xs (first_of ok xs)
first_ranked ok xs some = record {
  one = first_of_is ok xs some;
  first = λ y there passes ne other. one_ahead y (first_of ok xs) other ∙ ap not (first_of_leads ok xs y there passes ne).1;
}

-- "Begin and the conductor now take the first-ranked tag"
pub begin_takes : (known : List ℕ) (k : Replica) → next_tag known k ≢ 0 → FirstRanked (pending k) known (next_tag known k)
begin_takes known k = first_ranked (pending k) known

pub conductor_takes : (N : Numbers) (r : Rack) → common_tag N r ≢ 0 → FirstRanked (pending_somewhere N r) r.known (common_tag N r)
conductor_takes N r = first_ranked (pending_somewhere N r) r.known
