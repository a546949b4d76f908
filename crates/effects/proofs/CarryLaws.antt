-- Each effect is carried out: what was stored is what `write` says.
use Prim.Native.Nat.{ℕ}
use native.Mathlib.Omega.{arith}
use mathlib.Core.List.{List}
use mathlib.Core.Bool.{Bool, true}
use mathlib.Core.Path.{◌≡◌, refl, sym, subst}
use lib.ListN.{get_or, set}
use Rattle.model.specs.declared.Numbers.{Numbers}
use Rattle.model.specs.declared.Round.TheVariants.{Find}
use Rattle.model.specs.declared.Sort.{Sort}
use Rattle.model.specs.declared.Word.{Word}
use Rattle.model.specs.declared.Effect.{Effect}
use Rattle.model.specs.declared.Effect.TheVariants.{Refuse, Hold, Send, Close, Seek, Receive, Halt}
use Rattle.model.proofs.Cases.{clash}
use Rattle.tables.specs.Layout.{Tables, with_bit, known_in, record_at, record_stored, heard_cell}
use Rattle.tables.specs.Write.{write, moved, with_change, halted, orders_held, words_held}
use Rattle.tables.specs.Calls.{tables}
use Rattle.messages.specs.Reach.{Reach}
use Rattle.known.specs.Room.{Acting}
use Rattle.effects.specs.Doable.{Ready, RecordThere, by_advance}

module _ (N : Numbers) (c : ℕ) (t : Tables) where
  abbrev Carried : Effect → Tables → Type 0
  Carried e t' = t' ≡ write N c e t

  -- by the effect that the code has matched
  pub carried : {t' : Tables} {e e' : Effect} → e ≡ e' → Carried e' t' → Carried e t'
  carried {t'} q h = subst (λ (e : Effect). Carried e t') (sym q) h

  -- ---- what a replica that is ready has

  pub record_there : Ready N c t → RecordThere c t.words
  record_there r = let a = r.who in let b = r.bounds.few in let l = r.words in record { few = omega arith; there = omega arith }

  pub reach : Ready N c t → Reach N t
  reach r = record { bounds = r.bounds; words = r.words; orders = r.orders; ballots = r.ballots }

  pub acting : Ready N c t → Acting N c t.words t.orders
  acting r = record { who = r.who; room = record { bounds = r.bounds; known = r.known; words = r.words; orders = r.orders } }

  -- ---- what each effect leaves

  -- an advance that comes to no message, no entry and no find round is refused, and stores nothing
  pub kept : (e : Effect) → by_advance e ≡ true → ((so : Sort) (p : ℕ) (w : Word) → e ≡ Send so p w → ⊥) → ((x : ℕ) (own : Bool) → e ≡ Close x own → ⊥)
      → (e ≡ Seek → ⊥) → Carried e t
  unfolding write
  kept = elim [
    | Refuse why ↦ λ _ _ _ _. refl
    | Hold x ↦ λ h _ _ _. clash h
    | Send so p w ↦ λ _ none _ _. absurd (none so p w refl)
    | Close x own ↦ λ _ _ none _. absurd (none x own refl)
    | Seek ↦ λ _ _ _ none. absurd (none refl)
    | Receive so s p d w ↦ λ h _ _ _. clash h
    | Halt ↦ λ h _ _ _. clash h
  ]

  pub held : (x : ℕ) {ws' os' : List ℕ} → (ws' ≡ words_held N c x t.orders t.words) × (os' ≡ orders_held x (known_in t.words) t.orders)
      → Carried (Hold x) (tables ws' os' t.ballots)
  unfolding write
  held x q = λ i. tables (q.0 i) (q.1 i) t.ballots

  pub sought : {ws' : List ℕ} → ws' ≡ with_change t.words c (moved Find (record_at t.words c).slot (record_at t.words c).phase)
      → Carried Seek (tables ws' t.orders t.ballots)
  unfolding write
  sought q = λ i. tables (q i) t.orders t.ballots

  pub received : (so : Sort) (s p d : ℕ) (w : Word) {ws' : List ℕ}
      → ws' ≡ set t.words (heard_cell N so s p d) (with_bit (get_or t.words (heard_cell N so s p d) 0) c)
      → Carried (Receive so s p d w) (tables ws' t.orders t.ballots)
  unfolding write
  received so s p d w q = λ i. tables (q i) t.orders t.ballots

  pub stopped : {ws' : List ℕ} → ws' ≡ record_stored t.words c (halted (record_at t.words c)) → Carried Halt (tables ws' t.orders t.ballots)
  unfolding write
  stopped q = λ i. tables (q i) t.orders t.ballots
