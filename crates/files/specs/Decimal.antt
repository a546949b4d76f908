-- `decimal` is decimal: a number's digits read back as the number, and a small number has few.
use Rattle.std.specs.Prelude.{ℕ, zero, suc, ◌+◌, ◌-◌, ◌*◌, ◌/◌, ◌%◌, ◌^◌, ◌≤◌, ◌<◌, List, [], ◌∷◌, ◌++◌, ◌≡◌, refl, ltb, length}
use Rattle.std.proofs.Common.{arith, pow-suc, ◌∙◌, length-append, ltb-false}
use Rattle.model.proofs.Cases.{if-ind}
use Rattle.files.specs.Text.{digit, digits, decimal}

-- what a text of digits is worth behind a number
unfoldable pub value : ℕ → List ℕ → ℕ
value a [] = a
value a (d ∷ ds) = value (10 * a + (d - 48)) ds

value_on : (a : ℕ) (v w : List ℕ) → value a (v ++ w) ≡ value (value a v) w
unfolding value
value_on a [] w = refl
value_on a (d ∷ v) w = value_on (10 * a + (d - 48)) v w

-- without its last digit
shorter : (k n : ℕ) → n < 10 ^ suc k → n / 10 < 10 ^ k
shorter k n h = let e = pow-suc 10 k in omega arith

reads : (k n : ℕ) → n < 10 ^ k → value 0 (digits k n) ≡ n
unfolding digits value
reads zero n h = omega arith
reads (suc k) n h = if-ind (λ (v : List ℕ). value 0 v ≡ n) (ltb n 10) (λ e. omega arith)
    (λ e. value_on 0 (digits k (n / 10)) (digit (n % 10)) ∙ (let g = reads k (n / 10) (shorter k n h) in omega arith))

pub reads_back : (n : ℕ) → n < 10 ^ 20 → value 0 (decimal n) ≡ n
reads_back n h = reads 20 n h

-- ---- how many digits

pub digits_most : (k n : ℕ) → length (digits k n) ≤ k
unfolding digits
digits_most zero n = omega arith
digits_most (suc k) n = if-ind (λ (v : List ℕ). length v ≤ suc k) (ltb n 10) (λ e. omega arith)
    (λ e. let g = length-append (digits k (n / 10)) (digit (n % 10)) in let h = digits_most k (n / 10) in omega arith)

pub digits_few : (j k n : ℕ) → n < 10 ^ suc j → length (digits k n) ≤ suc j
unfolding digits
digits_few j zero n h = omega arith
digits_few zero (suc k) n h = if-ind (λ (v : List ℕ). length v ≤ 1) (ltb n 10) (λ e. omega arith) (λ e. let l = ltb-false n 10 e in absurd (omega arith))
digits_few (suc j) (suc k) n h = if-ind (λ (v : List ℕ). length v ≤ suc (suc j)) (ltb n 10) (λ e. omega arith)
    (λ e. let g = length-append (digits k (n / 10)) (digit (n % 10)) in let l = digits_few j k (n / 10) (shorter (suc j) n h) in omega arith)
