use mathlib.Core.Path.{◌≡◌}
use Rattle.survey.proofs.TagLaws.{first_among}
use Rattle.survey.proofs.tags.common_tag.Given as goal

abbrev pub invariant-loop-c : goal.invariant-loop-c
invariant-loop-c l = l.first ≡ first_among l.numbers l.running l.words l.orders l.c
