use mathlib.Core.Path.{◌≡◌, refl, sym, ap, ◌∙◌, subst}
use Prim.Native.Nat.{ℕ}
use native.Mathlib.Omega.{arith}
use Rattle.model.specs.Rack.{tag_of}
use Rattle.tables.specs.Lent.{read}
use Rattle.tallies.specs.Counts.{backed}
use Rattle.tallies.specs.Heard.{heard_by}
use Rattle.tallies.proofs.LeadLaws.{Ahead, heard_tag, ahead_none, ahead_more, leading}
use Rattle.tallies.proofs.leading_tag.Goals as goal

pub loop-sender-init : goal.loop-sender-init
loop-sender-init c = ahead_none _ _ refl

pub loop-sender-preserved : goal.loop-sender-preserved
loop-sender-preserved c = let e = c.back-lead.ensures ∙ ap (backed _) (c.tag_of.ensures ∙ ap tag_of c.heard-word.ensures) in
    subst (Ahead _ _) (sym e) (ahead_more _ _ _ c.loop-sender.invariant)

pub returns : goal.returns
returns c = let args = c.args in
    let k = heard_by args.numbers args.who args.slot 0 (read args.memory) in
    let e : c.loop-sender.sender ≡ args.numbers.n = omega arith in
    leading args.numbers k (subst (λ (d : ℕ). Ahead (heard_tag args.numbers k) d c.loop-sender.lead) e c.loop-sender.invariant)
