-- What each step but an advance stores where it is accepted, and that this is the definition's step.
use Prim.Native.Nat.{ℕ, ◌≤◌, ◌<◌}
use mathlib.Core.List.{List}
use mathlib.Core.Path.{◌≡◌, refl}
use lib.ListN.{length, get_or, set}
use Rattle.model.specs.declared.Numbers.{Numbers}
use Rattle.model.specs.declared.Sort.{Sort}
use Rattle.model.specs.declared.Sort.TheVariants.{Proposals}
use Rattle.model.specs.declared.Word.{Word}
use Rattle.model.specs.declared.Word.TheVariants.{Tag}
use Rattle.model.specs.declared.Effect.TheVariants.{Hold, Send, Receive}
use Rattle.model.specs.declared.Answer.TheVariants.{Done}
use Rattle.model.specs.declared.Step.{Step}
use Rattle.model.specs.Scripts.{ended}
use Rattle.tables.specs.Layout.{mask_bits, Tables, with_bit, known_in, record_at, heard_cell, words_need}
use Rattle.tables.specs.Addresses.{Within}
use Rattle.tables.specs.Bounds.{Bounds}
use Rattle.tables.specs.Write.{write, orders_held, words_held}
use Rattle.tables.specs.Calls.{tables, judge, stepped}
use Rattle.messages.specs.Reach.{Reach, Fitting}
use Rattle.known.specs.Room.{Room, Storable}
use Rattle.effects.proofs.CarryLaws.{record_there, reach, acting, held, received}
use Rattle.acts.proofs.StepLaws.{doable, stores}

module _ (N : Numbers) (strip : List ℕ) (a : Step) (t : Tables) where
  abbrev c : ℕ
  c = a.who.0

  abbrev Comes : Tables → Type 0
  Comes u = ended Done u ≡ stepped N strip a t

  -- submit and relay
  module _ {x : ℕ} (judged : Hold x ≡ judge N strip a t) where
    pub hold_asks : (c < mask_bits) × Room N t.words t.orders × Storable N x (known_in t.words) t.orders
    hold_asks = let d = doable N strip a t judged in ((record_there N c t d.0).few, (acting N c t d.0).room, d.1)

    pub hold_made : {ws os : List ℕ} → (ws ≡ words_held N c x t.orders t.words) × (os ≡ orders_held x (known_in t.words) t.orders)
        → Comes (tables ws os t.ballots)
    hold_made q = stores N strip a t judged refl refl (held N c t x q)

  -- begin
  module _ {y : ℕ} (judged : Send Proposals 0 (Tag y) ≡ judge N strip a t) where
    pub begin_asked : Within N Proposals (record_at t.words c).slot 0 c × Fitting Proposals (Tag y) × Reach N t
    begin_asked = let d = doable N strip a t judged in (d.1, d.2, reach N c t d.0)

    pub begin_made : {u : Tables} → u ≡ write N c (Send Proposals 0 (Tag y)) t → Comes u
    begin_made q = stores N strip a t judged refl refl q

  -- hear
  module _ {so : Sort} {s p d : ℕ} {w : Word} (judged : Receive so s p d w ≡ judge N strip a t) where
    pub mark_asked : (c < mask_bits) × Bounds N × Within N so s p d × (words_need N ≤ length t.words)
    mark_asked = let d = doable N strip a t judged in ((record_there N c t d.0).few, d.0.bounds, d.1, d.0.words)

    pub hear_made : {ws : List ℕ} → let i = heard_cell N so s p d in ws ≡ set t.words i (with_bit (get_or t.words i 0) c)
        → Comes (tables ws t.orders t.ballots)
    hear_made q = stores N strip a t judged refl refl (received N c t so s p d w q)
