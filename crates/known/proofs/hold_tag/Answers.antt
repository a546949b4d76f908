use Rattle.known.proofs.TagLaws.{held_known, held_new}
use Rattle.known.proofs.hold_tag.Goals as goal

pub returns-then-at-known : goal.returns-then-at-known
returns-then-at-known c = held_known _ _ _ c.requires.1 c.holders_base-base.ensures c.known_in-count.ensures _
    c.tag_place-at.ensures _ c.if-at-known.true c.with_bit.ensures

pub returns-else-at-known : goal.returns-else-at-known
returns-else-at-known c = held_new _ _ _ c.requires.1 c.holders_base-base.ensures c.known_in-count.ensures _
    c.tag_place-at.ensures _ c.if-at-known.false c.own_bit.ensures
