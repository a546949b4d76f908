-- What each step comes to, read backwards: a refusal, or the effect of one rule, with all that this rule asks of the rack.
-- Every proof about steps goes by these cases. A coin may be any: nothing here looks at the strip.
use Rattle.std.specs.Prelude.{ℕ, List, leb}
use borrow.Author.Tests.{leb-false}
use Rattle.safety.specs.Types.{Numbers}
use Rattle.safety.specs.Types.{Step}
use Rattle.model.specs.Rack.{Rack}
use Rattle.model.specs.Rules.{rule, decide}
use Rattle.model.proofs.Cases.{or_false, Unmet, unless_ind}
use Rattle.safety.specs.Comes.{Acts, ByRule, Comes, own_past, refused, ruled}

module _ (N : Numbers) (r : Rack) where
  open N use {n, slots, phases, room}

  -- the same of a whole step
  pub past : (strip : List ℕ) (a : Step) → Unmet (rule N strip a r).refusals
      → Acts N r a.who.0 × ByRule N r (r.at a.who.0) a.act (rule N strip a r).effect
  unfolding Unmet
  past strip a (_, (nobody, (crashed, rest))) = let (c, d) = or_false (leb n a.who.0) _ nobody in
      (record { there = leb-false _ _ c; running = crashed }, own_past N r (r.at a.who.0) strip a.act d rest)

  pub comes : (strip : List ℕ) (a : Step) → Comes N r a.who.0 a.act (decide N strip a r)
  unfolding decide
  comes strip a = unless_ind (Comes N r a.who.0 a.act) (rule N strip a r).refusals refused (λ u. let (acts, rule) = past strip a u in ruled acts rule)
