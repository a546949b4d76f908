-- A number's digits, printed.
use Prim.Native.Nat.{ℕ, zero, suc, ◌+◌, ◌-◌, ◌/◌, ◌%◌, ◌<◌, ◌≤◌}
use mathlib.Core.Logic.{◌≢◌}
use mathlib.Core.Path.{◌≡◌, refl, sym, ◌∙◌, ap}
use mathlib.Core.List.{List, ◌++◌}
use native.Mathlib.Omega.{arith}
use borrow.Author.Tests.{lt-ltb, le-ltb}
use Rattle.model.proofs.Branches.{if-true, if-false}
use Rattle.files.specs.Text.{digit, digits}
use Rattle.files.specs.Page.{Page, put_byte, print}
use Rattle.report.proofs.PageLaws.{then, one_byte, nothing}

module _ (p : Page) (n : ℕ) where
  -- the digits of a number that has one, and of one that has more
  digits_last : (k : ℕ) → n < 10 → digits (suc k) n ≡ digit n
  unfolding digits
  digits_last k h = if-true _ _ (lt-ltb n 10 h)

  digits_on : (k : ℕ) → 10 ≤ n → digits (suc k) n ≡ digits k (n / 10) ++ digit (n % 10)
  unfolding digits
  digits_on k h = if-false _ _ (le-ltb n 10 h)

  -- no digit is left to print
  pub no_digit : (left : ℕ) → left ≡ 0 → p ≡ print p (digits left n)
  unfolding digits
  no_digit zero e = nothing p
  no_digit (suc k) e = absurd (omega arith)

  -- the number has one digit, and its byte was put
  pub last_digit : {q r : Page} (left : ℕ) → left ≢ 0 → n < 10 → q ≡ p → r ≡ put_byte q (48 + n % 10) → r ≡ print p (digits left n)
  last_digit zero z h e g = absurd (z refl)
  last_digit (suc k) z h e g =
      let same : n % 10 ≡ n = omega arith in
      one_byte p _ (g ∙ ap (λ (q : Page). put_byte q (48 + n % 10)) e) ∙ ap (λ (d : ℕ). print p (digit d)) same
      ∙ ap (λ (v : List ℕ). print p v) (sym (digits_last k h))

  -- the digits before the last were printed, and its byte was put behind them
  pub one_more_digit : {q r : Page} (left : ℕ) → left ≢ 0 → 10 ≤ n → q ≡ print p (digits (left - 1) (n / 10)) → r ≡ put_byte q (48 + n % 10)
      → r ≡ print p (digits left n)
  one_more_digit zero z h e g = absurd (z refl)
  one_more_digit {q} {r} (suc k) z h e g =
      let less : suc k - 1 ≡ k = omega arith in
      let before : q ≡ print p (digits k (n / 10)) = e ∙ ap (λ (j : ℕ). print p (digits j (n / 10))) less in
      then p _ _ before (one_byte q _ g) ∙ ap (λ (v : List ℕ). print p v) (sym (digits_on k h))
