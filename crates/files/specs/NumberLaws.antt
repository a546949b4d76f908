-- Numbers of one, two, four and eight bytes, by their parts.
use Rattle.std.specs.Prelude.{ℕ, suc, ◌+◌, ◌*◌, ◌<◌, List, ◌≡◌, get_or}
use Rattle.std.specs.Int.{w8}
use Rattle.std.proofs.Common.{Fits, arith, sym, ap}
use Rattle.std.proofs.Math.Path.{refl}
use Rattle.files.specs.Format.{number}

module _ (file : List ℕ) where
  none : (i : ℕ) → number 0 file i ≡ 0
  unfolding number
  none i = refl

  more : (k i : ℕ) → number (suc k) file i ≡ get_or file i 0 + 256 * number k file (i + 1)
  unfolding number
  more k i = refl

  pub one : (i : ℕ) → number 1 file i ≡ get_or file i 0
  one i = omega (arith, more 0 i, none (i + 1))

  -- two more bytes
  pair : (k i : ℕ) → number (suc (suc k)) file i ≡ get_or file i 0 + 256 * get_or file (i + 1) 0 + 65536 * number k file (i + 2)
  pair k i = omega (arith, more (suc k) i, more k (i + 1), ap (number k file) (let e : i + 1 + 1 ≡ i + 2 = omega arith in e))

  of_two : (i : ℕ) → number 2 file i ≡ get_or file i 0 + 256 * get_or file (i + 1) 0
  of_two i = omega (arith, pair 0 i, none (i + 2))

  of_four : (i : ℕ) → number 4 file i ≡ number 2 file i + 65536 * number 2 file (i + 2)
  of_four i = omega (arith, pair 2 i, of_two i)

  of_eight : (i : ℕ) → number 8 file i ≡ number 4 file i + 4294967296 * number 4 file (i + 4)
  of_eight i =
      let on : number 4 file (i + 2 + 2) ≡ number 4 file (i + 4) = ap (number 4 file) (let e : i + 2 + 2 ≡ i + 4 = omega arith in e) in
      omega (arith, pair 6 i, pair 4 (i + 2), of_four i, of_two i, of_two (i + 2))

  module _ (i : ℕ) {low high : ℕ} where
    pub two : low ≡ get_or file i 0 → high ≡ get_or file (i + 1) 0 → low + 256 * high ≡ number 2 file i
    two e h = rw (e, h) (sym (of_two i))

    pub four : low ≡ number 2 file i → high ≡ number 2 file (i + 2) → low + 65536 * high ≡ number 4 file i
    four e h = rw (e, h) (sym (of_four i))

    pub eight : low ≡ number 4 file i → high ≡ number 4 file (i + 4) → low + 4294967296 * high ≡ number 8 file i
    eight e h = rw (e, h) (sym (of_eight i))

  -- numbers of bytes are small
  module _ (b : (j : ℕ) → Fits w8 (get_or file j 0)) where
    pub two_fits : (i : ℕ) {x : ℕ} → x ≡ number 2 file i → x < 65536
    two_fits i e = let low = b i in let high = b (i + 1) in omega (arith, of_two i)

    pub four_fits : (i : ℕ) {x : ℕ} → x ≡ number 4 file i → x < 4294967296
    four_fits i e = omega (arith, of_four i, two_fits i refl, two_fits (i + 2) refl)
