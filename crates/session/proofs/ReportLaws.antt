-- The report grows line by line.
use Prim.Native.Nat.{ℕ, zero, suc, ◌+◌, ◌≤◌, ◌<◌, zero-le}
use native.Mathlib.Omega.{arith}
use native.Mathlib.Numerals.{add-one}
use native.Mathlib.Nat.{le_refl, le_antisymm, eq-or-lt_of_le}
use mathlib.Core.Bool.{true, false}
use mathlib.Core.List.{List, []}
use mathlib.Core.Logic.{⊎_elim, ◌≢◌}
use mathlib.Core.Path.{◌≡◌, refl, sym, ◌∙◌, ap, subst}
use lib.ListN.{length}
use Rattle.model.specs.declared.Numbers.{Numbers}
use Rattle.model.specs.declared.Refusal.{Refusal}
use Rattle.model.specs.declared.Answer.{Answer}
use Rattle.model.specs.declared.Answer.TheVariants.{Refused, Done, Ran, Opened, Conducted}
use Rattle.model.proofs.Branches.{if-true, if-false}
use Rattle.tables.specs.Layout.{Tables, words_need, orders_need}
use Rattle.tables.specs.Bounds.{Bounds}
use Rattle.tables.specs.Sound.{Sound}
use Rattle.files.specs.Page.{Page, print}
use Rattle.files.specs.Lines.{benches_in}
use Rattle.report.proofs.PageLaws.{then, same_text, nothing}
use Rattle.report.proofs.BenchLaws.{by_view}
use Rattle.files.specs.Found.{Said, Option, Ok, None, Some}
use Rattle.files.specs.Play.{Turn, turn, goes_on, turn_on, play, begun}
use Rattle.files.proofs.Playing.{opened_sound}
use Rattle.session.proofs.RecordLaws.{on_more, play_more, still, play_stopped}
use Rattle.files.specs.Reported.{said_line, line_on, lines, ending, ending_of, fresh, whole, report}

-- what is said of a record is one of its cases
pub says : (p : Page) {q : Page} (k : ℕ) (said s : Said) → said ≡ s → q ≡ print p (said_line k s) → q ≡ print p (said_line k said)
says p k said s e h = same_text p _ _ (ap (said_line k) (sym e)) h

-- an accepted call that opens nothing has no line
pub no_line : (p : Page) (k : ℕ) (a : Answer) → ((why : Refusal) → a ≢ Refused why) → ((N : Numbers) → a ≢ Opened N) → p ≡ print p (said_line k (Ok (Some a)))
unfolding said_line
no_line p k (Refused why) h g = absurd (h why refl)
no_line p k Done h g = nothing p
no_line p k (Ran m) h g = nothing p
no_line p k (Opened N) h g = absurd (g N refl)
no_line p k (Conducted m r) h g = nothing p

module _ (most : Numbers) (file : List ℕ) where
  pub line_more : (p : Page) {q : Page} (k : ℕ) (x : Turn) {y : Turn} → goes_on x.said ≡ true → y ≡ turn_on most file x
      → q ≡ print p (said_line k y.said) → q ≡ print p (line_on k most file x)
  unfolding line_on
  line_more p k x h e g = same_text p _ _ (ap (λ (z : Turn). said_line k z.said) e ∙ sym (if-true _ _ h)) g

  line_none : (p : Page) (k : ℕ) (x : Turn) → goes_on x.said ≡ false → p ≡ print p (line_on k most file x)
  unfolding line_on
  line_none p k x h = same_text p [] _ (sym (if-false _ _ h)) (nothing p)

  module _ (p : Page) (x : Turn) where
    pub lines_none : {q : Page} → q ≡ p → q ≡ print p (lines 0 most file x)
    unfolding lines
    lines_none e = e ∙ nothing p

    -- the next record has the next number
    pub lines_more : {q r : Page} {y : Turn} (i k : ℕ) → q ≡ print p (lines i most file x) → y ≡ play i most file x
        → r ≡ print q (line_on k most file y) → k ≡ i + 1 → r ≡ print p (lines (i + 1) most file x)
    unfolding lines
    lines_more {q} {r} {y} i k e h g next =
        then p (lines i most file x) _ e (same_text q _ _ (ap (λ (k : ℕ). line_on k most file y) (next ∙ add-one i) ∙ ap (line_on (suc i) most file) h) g)
        ∙ ap (λ (k : ℕ). print p (lines k most file x)) (sym (add-one i))

    pub lines_all : {q : Page} {i n : ℕ} → i ≤ n → n ≤ i → q ≡ print p (lines i most file x) → q ≡ print p (lines n most file x)
    lines_all l g e = e ∙ ap (λ (k : ℕ). print p (lines k most file x)) (le_antisymm l g)

    -- where reading does not go on, no further line is written
    lines_still : {q : Page} (i n : ℕ) → i ≤ n → goes_on (play i most file x).said ≡ false → q ≡ print p (lines i most file x)
        → q ≡ print p (lines n most file x)
    unfolding lines
    lines_still i zero l h e = lines_all l zero-le e
    lines_still {q} i (suc n) l h e =
        ⊎_elim (λ (g : i ≡ suc n). lines_all l (omega arith) e)
        (λ (g : i < suc n).
        let k : i ≤ n = omega arith in
        let stop = ap (λ (y : Turn). goes_on y.said) (still most file x i n k h) ∙ h in
        then p (lines n most file x) _ (lines_still i n k h e) (line_none q _ _ stop)) (eq-or-lt_of_le l)

    pub lines_stopped : {q : Page} {i n : ℕ} {y : Turn} → i ≤ n → goes_on y.said ≡ false → y ≡ play i most file x → q ≡ print p (lines i most file x)
        → q ≡ print p (lines n most file x)
    lines_stopped l h g e = lines_still _ _ l (ap (λ (y : Turn). goes_on y.said) (sym g) ∙ h) e

    -- ---- turns and lines together

    abbrev pub Written : ℕ → Turn → Page → Type 0
    Written i y q = (y ≡ play i most file x) × (q ≡ print p (lines i most file x))

    pub one_more : (i k : ℕ) (y : Turn) {z : Turn} {q r : Page} → k ≡ i + 1 → goes_on y.said ≡ true → Written i y q
        → z ≡ turn most file y.player y.tables y.strip → r ≡ print q (said_line k z.said) → Written (i + 1) z r
    one_more i k y {q = q} next h (e, g) turns line = let on = on_more most file y h turns in
        (play_more most file x i e on, lines_more i k g e (line_more q k y h on line) next)

    pub stopped : {i n : ℕ} {y : Turn} {q : Page} → i ≤ n → goes_on y.said ≡ false → Written i y q → Written n y q
    stopped l h (e, g) = (play_stopped most file x l h e, lines_stopped l h e g)

  -- ---- the end

  module _ (t : Tables) (strip : List ℕ) (p : Page) {q : Page} {x : Turn} (played : Written p (begun fresh t strip) (length file) x q) where
    -- what the lines at the end are read from
    pub readable : {N : Numbers} → x.player.opened ≡ Some N → (Bounds N) × (words_need N ≤ length x.tables.words) × (orders_need N ≤ length x.tables.orders)
    readable {N} h =
        let fine = subst (λ (y : Turn). Sound N y.tables) (sym played.0)
        (opened_sound most file t strip (length file) N (sym (ap (λ (y : Turn). y.player.opened) played.0) ∙ h)) in
        (fine.within, fine.long.words, fine.long.orders)

    ends : {r : Page} → r ≡ print q (ending x) → r ≡ print p (report most file t strip)
    unfolding report whole
    ends e = then p _ _ played.1 (same_text q _ _ (ap ending played.0) e)

    pub ends_unopened : x.player.opened ≡ None → q ≡ print p (report most file t strip)
    ends_unopened h = ends (same_text q [] _ (ap (λ (run : Option Numbers). ending_of run x.tables) (sym h)) (nothing q))

    pub ends_opened : {N : Numbers} {r : Page} → x.player.opened ≡ Some N
        → r ≡ print q (benches_in N x.tables.words x.tables.orders N.n) → r ≡ print p (report most file t strip)
    ends_opened {N} h e =
        ends (same_text q _ _ (by_view N x.tables _ (le_refl _) ∙ ap (λ (run : Option Numbers). ending_of run x.tables) (sym h)) e)
