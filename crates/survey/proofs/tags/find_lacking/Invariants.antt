use mathlib.Core.Bool.{not, ◌&&◌}
use Rattle.tables.specs.Layout.{has_bit}
use Rattle.tables.specs.View.{held_from}
use Rattle.survey.proofs.MarkLaws.{Marks}
use Rattle.survey.proofs.tags.find_lacking.Given as goal

abbrev pub invariant-loop-c : goal.invariant-loop-c
invariant-loop-c l = Marks (λ c. has_bit l.running c && not (held_from l.base l.known l.orders l.words c l.tag)) l.c l.mask
