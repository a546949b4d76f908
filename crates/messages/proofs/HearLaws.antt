-- What a hear comes to, exit by exit.
use Prim.Native.Nat.{ℕ, ◌<◌, ◌≤◌}
use native.Mathlib.Omega.{arith}
use mathlib.Core.Bool.{Bool, true, false, not, ◌||◌}
use mathlib.Core.List.{List}
use mathlib.Core.Logic.{◌≢◌}
use mathlib.Core.Option.{Option, none, some}
use mathlib.Core.Path.{◌≡◌, refl, sym, ◌∙◌, ap, subst}
use lib.Dec.{leb}
use lib.ListN.{get_or}
use borrow.Author.Tests.{leb-false, not-false}
use Rattle.std.specs.Prelude.{Ok, Err}
use Rattle.model.specs.declared.Numbers.{Numbers}
use Rattle.model.specs.declared.Message.{Message}
use Rattle.model.specs.declared.Sort.{Sort}
use Rattle.model.specs.declared.Sort.TheVariants.{Proposals, States, Votes, Notices}
use Rattle.model.specs.declared.Word.{Word}
use Rattle.model.specs.declared.Word.TheVariants.{Unsent}
use Rattle.model.specs.declared.Effect.{Effect}
use Rattle.model.specs.declared.Effect.TheVariants.{Refuse, Receive}
use Rattle.model.specs.declared.Refusal.{Refusal}
use Rattle.model.specs.declared.Refusal.TheVariants.{NoSuchMessage, NotSent, AlreadyHeard}
use Rattle.model.specs.Tests.{if}
use Rattle.model.specs.Rack.{sort_of, is_sent, Messages, Replica}
use Rattle.model.specs.TurnedAway.{unless, settle, found_or}
use Rattle.model.specs.Rules.{phase_in, hear_rule}
use Rattle.model.proofs.Cases.{or_false}
use Rattle.tables.specs.Layout.{heard_cell}
use Rattle.tables.specs.View.{counts_for, guarded, sent_words, inbox_in}
use Rattle.tables.specs.Addresses.{Within, guarded_at}
use Rattle.messages.specs.Reach.{reading}

module _ {N : Numbers} {so : Sort} {s p d : ℕ} where
  -- a message that is not out of range is one of the run
  pub within : d < N.n → (leb N.slots s || not (phase_in N so p)) ≡ false → Within N so s p d
  within there e = let (a, b) = or_false (leb N.slots s) _ e in record { sender = there; slot = leb-false _ _ a; phase = not-false _ b }

-- a word that was sent is heard where it counts
by_mark : (b : Bool) (w : Word) → is_sent w ≡ true → is_sent (if b w Unsent) ≡ b
unfolding if
by_mark true w e = e
by_mark false w e = refl

module _ (N : Numbers) (ws os bs : List ℕ) (c : ℕ) (m : Message) (so : Sort) where
  abbrev pub Heard : Effect → Type 0
  Heard r = r ≡ settle (hear_rule N (guarded N (sent_words N ws os bs)) (reading 0 0 (guarded N (inbox_in N ws os bs c))) m (some so))

  abbrev Out : Bool → Type 0
  Out b = (leb N.slots m.slot.0 || not (phase_in N so m.phase.0)) ≡ b

  -- one law for each way out
  pub no_such : Out true → Heard (Refuse NoSuchMessage)
  unfolding hear_rule unless if
  no_such e = rw e

  module _ {w : Word} (there : m.sender.0 < N.n) (in_range : Out false) (word : w ≡ sent_words N ws os bs so m.slot.0 m.phase.0 m.sender.0) where
    -- the word as the rule reads it
    on_board : guarded N (sent_words N ws os bs) so m.slot.0 m.phase.0 m.sender.0 ≡ w
    on_board = guarded_at N _ (within there in_range) ∙ sym word

    pub not_sent : is_sent w ≡ false → Heard (Refuse NotSent)
    unfolding hear_rule unless if
    not_sent e = rw (in_range, on_board, e)

    module _ {mark : Bool} (sent : is_sent w ≡ true)
        (has : mark ≡ counts_for c m.sender.0 (get_or ws (heard_cell N so m.slot.0 m.phase.0 m.sender.0) 0)) where
      -- whether it was heard, as the rule reads it
      in_inbox : {b : Bool} → mark ≡ b → is_sent (guarded N (inbox_in N ws os bs c) so m.slot.0 m.phase.0 m.sender.0) ≡ b
      in_inbox e = ap is_sent (guarded_at N _ (within there in_range)) ∙ by_mark _ _ (ap is_sent (sym word) ∙ sent) ∙ sym has ∙ e

      pub already : mark ≡ true → Heard (Refuse AlreadyHeard)
      unfolding hear_rule unless if
      already e = rw (in_range, on_board, sent, in_inbox e)

      pub received : mark ≡ false → Heard (Receive so m.slot.0 m.phase.0 m.sender.0 w)
      unfolding hear_rule unless if
      received e = rw (in_range, on_board, sent, in_inbox e)

      -- the word as it stands on the board
      pub taken : mark ≡ false → Heard (Receive so m.slot.0 m.phase.0 m.sender.0 (guarded N (sent_words N ws os bs) so m.slot.0 m.phase.0 m.sender.0))
      taken e = ap (λ (w : Word). Receive so m.slot.0 m.phase.0 m.sender.0 w) on_board ∙ received e

-- ---- by the number of the sort

pub sort_1 : {x : ℕ} → x ≡ 1 → some Proposals ≡ sort_of x
unfolding if
sort_1 e = rw e

pub sort_2 : {x : ℕ} → x ≡ 2 → some States ≡ sort_of x
unfolding if
sort_2 e = rw e

pub sort_3 : {x : ℕ} → x ≡ 3 → some Votes ≡ sort_of x
unfolding if
sort_3 e = rw e

pub sort_4 : {x : ℕ} → (1 ≤ x) × (x ≤ 4) → x ≢ 1 → x ≢ 2 → x ≢ 3 → some Notices ≡ sort_of x
unfolding if
sort_4 {x} (lo, hi) a b c = let e : x ≡ 4 = omega arith in rw e

module _ (N : Numbers) (sent : Messages) (k : Replica) (m : Message) where
  abbrev Comes : Effect → Option Sort → Type 0
  Comes r so = r ≡ settle (hear_rule N sent k m so)

  pub sort_heard : {r : Effect} {so : Sort} → some so ≡ sort_of m.sort → Comes r (some so) → Comes r (sort_of m.sort)
  sort_heard {r} e q = subst (Comes r) e q

  -- as it was looked for
  pub sort_found : {r : Effect} {so : Sort} → Ok so ≡ found_or NoSuchMessage (sort_of m.sort) → Comes r (some so) → Comes r (sort_of m.sort)
  sort_found {r} {so} e q = sort_heard (there (sort_of m.sort) e) q
    where
      there : (o : Option Sort) → Ok so ≡ found_or NoSuchMessage o → some so ≡ o
      there none e = cc
      there (some a) e = cc

  pub no_sort : {why : Refusal} → Err why ≡ found_or NoSuchMessage (sort_of m.sort) → Comes (Refuse why) (sort_of m.sort)
  unfolding hear_rule unless if
  no_sort {why} e = missing (sort_of m.sort) e
    where
      missing : (o : Option Sort) → Err why ≡ found_or NoSuchMessage o → Comes (Refuse why) o
      missing none e = cc
      missing (some a) e = cc
