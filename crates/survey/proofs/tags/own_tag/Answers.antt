use Rattle.survey.proofs.TagLaws.{tag_none, tag_next, slots_few}
use Rattle.model.proofs.Branches.{told}
use borrow.Author.Tests.{not-true, not-false}
use borrow.Author.Rules.{rules}
use Rattle.survey.proofs.tags.own_tag.Goals as goal

pub returns-then-not-has_bit : goal.returns-then-not-has_bit
returns-then-not-has_bit c = search (tag_none, told, not-true)

pub next_tag-requires : goal.next_tag-requires
next_tag-requires c = (search slots_few, search rules)

pub returns : goal.returns
returns c = search (tag_next, told, not-false)
