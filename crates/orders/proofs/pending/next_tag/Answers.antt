use Prim.Native.Nat.{◌+◌, ◌-◌}
use mathlib.Core.List.{[], ◌∷◌}
use mathlib.Core.Path.{◌≡◌, refl}
use native.Mathlib.Omega.{arith}
use borrow.Author.Rules.{rules}
use lib.ListN.{take, length, length-append}
use lib.Seq.{length-take-le}
use Rattle.std.specs.List.{slice_range}
use Rattle.std.proofs.lemmas.Slice.Zip.{zip_turn, zip_end}
use Rattle.known.proofs.TagLaws.{part_count}
use Rattle.orders.proofs.PendingLaws.{first_turn, first_is}
use Rattle.orders.proofs.pending.next_tag.Goals as goal

pub loop-tag-preserved : goal.loop-tag-preserved
loop-tag-preserved c =
    let k = c.known_in-known.result in
    let h = c.holders_base-holders.result in
    let L = c.loop-tag in
    let first : c.into_iter-tag-iterator.result.a.rest.now ≡ take k c.args.orders.now = search rules in
    let second : c.into_iter-tag-iterator.result.b.rest.now ≡ slice_range c.args.words.now h (h + k) = search rules in
    let (inside, also, tag, mask) = zip_turn _ _ _ c.into_iter-tag-iterator.result L.tag-iterator c.next.new.self c.next.result first second
    L.yielded_by _ c.in-Some.is c.next.ensures.steps in
    let few : length (take k c.args.orders.now) ≡ k = length-take-le _ _ (omega arith) in
    let more = length-append L.yielded ((c.in-Some.tag, c.in-Some.mask) ∷ []) in (
      search,
      first_turn c.args.orders.now _ _ h k _ (length L.yielded) (omega arith) (omega arith) (tag 0) (mask 0) L.invariant.1
          c.search_on-found.ensures.0,
    )

pub returns : goal.returns
returns c =
    let k = c.known_in-known.result in
    let h = c.holders_base-holders.result in
    let L = c.loop-tag in
    let first : c.into_iter-tag-iterator.result.a.rest.now ≡ take k c.args.orders.now = search rules in
    let second : c.into_iter-tag-iterator.result.b.rest.now ≡ slice_range c.args.words.now h (h + k) = search rules in
    let few : length (take k c.args.orders.now) ≡ k = length-take-le _ _ (omega arith) in
    let many : length (slice_range c.args.words.now h (h + k)) ≡ h + k - h = part_count _ h (h + k) (omega arith) (omega arith) in
    let over = zip_end _ _ _ c.into_iter-tag-iterator.result L.tag-iterator c.next.new.self c.next.result first second L.yielded_by c.in-None.is
    c.next.ensures.steps in
    first_is _ _ _ _ _ c.requires.1 c.holders_base-holders.ensures c.log_place-start.ensures refl c.requires.0 {i = length L.yielded}
    c.known_in-known.ensures (omega arith) L.invariant.1
