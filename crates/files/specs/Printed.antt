-- A text that fits into the buffer is written whole: it stands at the front, and what follows it is as it was.
use Rattle.std.specs.Prelude.{ℕ, ◌+◌, ◌≤◌, List, [], ◌∷◌, ◌++◌, ◌≡◌, length, drop}
use Rattle.std.proofs.Common.{arith, append_assoc, sym, ◌∙◌, ap, ap₂, length-append, lt-ltb}
use Rattle.std.proofs.Math.Seq.{set-append_seam, append_snoc}
use Rattle.model.proofs.Branches.{if-true}
use Rattle.files.specs.Page.{Page, page, put_byte, print}

-- the byte behind what is written is replaced, and is then written
one_more : (u l : List ℕ) (x b : ℕ) → put_byte (page (u ++ (x ∷ l)) (length u)) b ≡ page (u ++ (b ∷ []) ++ l) (length (u ++ (b ∷ [])))
unfolding put_byte
one_more u l x b =
    if-true _ _ (lt-ltb (length u) (length (u ++ (x ∷ l))) (let e = length-append u (x ∷ l) in omega arith))
    ∙ ap₂ page (set-append_seam u x l b ∙ sym (append_snoc u b l)) (sym (length-append u (b ∷ [])))

-- behind what is written already
printed_on : (u l w : List ℕ) → length w ≤ length l → print (page (u ++ l) (length u)) w ≡ page (u ++ (w ++ drop (length w) l)) (length u + length w)
unfolding print
printed_on u l [] h = ap (page (u ++ l)) (omega arith)
printed_on u [] (b ∷ w) h = absurd (omega arith)
printed_on u (x ∷ l) (b ∷ w) h =
    ap (λ (p : Page). print p w) (one_more u l x b) ∙ printed_on (u ++ (b ∷ [])) l w (omega arith)
    ∙ ap₂ page (append_assoc u (b ∷ []) (w ++ drop (length w) l)) (let e = length-append u (b ∷ []) in omega arith)

pub printed : (l w : List ℕ) → length w ≤ length l → print (page l 0) w ≡ page (w ++ drop (length w) l) (length w)
printed l w h = printed_on [] l w h ∙ ap (page (w ++ drop (length w) l)) (omega arith)
