-- Every record takes at least two bytes, so the turns of `whole` are enough: behind them the file has ended or reading has
-- stopped.
use Prim.Native.Nat.{ℕ, zero, suc, ◌+◌, ◌-◌, ◌≤◌}
use native.Mathlib.Omega.{arith}
use Rattle.std.specs.Prelude.{true, List, ◌≡◌, leb, ltb, length}
use Rattle.std.proofs.Common.{refl, sym, ◌∙◌}
use borrow.Author.Tests.{ltb-false, leb-false}
use Rattle.model.specs.declared.Numbers.{Numbers}
use Rattle.model.specs.declared.Answer.{Answer}
use Rattle.model.proofs.Cases.{if-ind, clash}
use Rattle.tables.specs.Layout.{Tables}
use Rattle.files.specs.declared.Read.{Read}
use Rattle.files.specs.Format.{byte, last_kind, step_kind, is_wide, body_length, file_record}
use Rattle.files.specs.BodyLaws.{some_body}
use Rattle.files.specs.declared.Player.{Player}
use Rattle.files.specs.Play.{Turn, moved_on, turned, turn, goes_on, play, begun}
use Rattle.files.specs.Reported.{fresh, whole}

-- whatever is answered, reading goes on at the next place
pub moved_to : (p : Player) (next : ℕ) (a : Answer) → (moved_on p next a).at ≡ next
moved_to p next a = refl

module _ (most : Numbers) (file : List ℕ) where
  -- where reading goes on, so many bytes are read, and no more than there are
  abbrev Past : ℕ → Turn → Type 0
  Past bytes x = goes_on x.said ≡ true → (bytes ≤ x.player.at) × (x.player.at ≤ length file)

  passes : (p : Player) (t : Tables) (strip : List ℕ) → Past (p.at + 2) (turn most file p t strip)
  unfolding turn turned file_record
  passes p t strip =
      let at = p.at in
      let body = body_length (byte file at) in
      let P : Read → Type 0 = λ r. Past (at + 2) (turned most p t strip r.next r.found) in
      if-ind P (leb (length file) at) (λ e h. clash h) (λ here. if-ind P (ltb last_kind (byte file at)) (λ e h. clash h)
      (λ e. if-ind P (ltb (length file - (at + 1)) body) (λ e h. clash h)
      (λ there h.
      let a = leb-false (length file) at here in
      let b = ltb-false (length file - (at + 1)) body there in
      let c = some_body (step_kind (byte file at)) (is_wide (byte file at)) in
      (omega arith, omega arith))))

  module _ (t : Tables) (strip : List ℕ) where
    two_each : (k : ℕ) → Past (k + k) (play k most file (begun fresh t strip))
    unfolding play
    two_each zero = λ h. (omega arith, omega arith)
    two_each (suc k) =
        let y = play k most file (begun fresh t strip) in
        if-ind (Past (suc k + suc k)) (goes_on y.said)
        (λ e h. let (a, b) = passes y.player y.tables y.strip h in let (c, d) = two_each k e in (omega arith, b)) (λ e h. clash (sym e ∙ h))

    pub whole_ends : goes_on (whole most file t strip).said ≡ true → length file ≡ 0
    unfolding whole
    whole_ends h = let (a, b) = two_each (length file) h in omega arith
