-- What each kind's body has, by its kind.
use Rattle.std.specs.Prelude.{ℕ, ◌+◌, ◌≤◌, List, ◌≡◌, refl, Result, Ok, Err, IsErrAnd}
use Rattle.std.proofs.Common.{arith, ◌⊎◌, inl, inr}
use mathlib.Core.Logic.{◌≢◌}
use Rattle.model.specs.Tests.{if}
use Rattle.model.specs.declared.Refusal.{Refusal}
use Rattle.model.specs.declared.Refusal.TheVariants.{UnknownKind}
use Rattle.model.specs.declared.Act.TheVariants.{Hear as HearSo}
use Rattle.model.specs.declared.Call.TheVariants.{Open, Single}
use Rattle.files.specs.declared.Read.{Read}
use Rattle.files.specs.Format.{read, replica, last_kind, step_kind, is_wide, slot_bytes, step_length, body_length}
use Rattle.files.specs.Format.{plan_at, message_at, act_at, step_at, call_at}
use Rattle.format.specs.declared.Kind.{Kind}
use Rattle.format.specs.declared.Kind.TheVariants.{Opening, Submit, Relay, Begin, Hear, Advance, Crash, RunOn, WideOpening, WideHear}
use Rattle.format.specs.Kinds.{kind_number, staying}

module _ (k : Kind) where
  pub wide : (k ≡ WideHear) ⊎ (k ≡ WideOpening) → 2 ≡ slot_bytes (is_wide (kind_number k))
  unfolding is_wide if
  wide (inl e) = rw e refl
  wide (inr e) = rw e refl

  pub opening_long : (k ≡ Opening) ⊎ (k ≡ WideOpening) → slot_bytes (is_wide (kind_number k)) + 7 ≡ body_length (kind_number k)
  unfolding step_kind is_wide step_length if
  opening_long (inl e) = rw e refl
  opening_long (inr e) = rw e refl

  pub tag_long : (k ≡ Submit) ⊎ (k ≡ Relay) → 9 ≡ body_length (kind_number k)
  unfolding step_kind is_wide step_length if
  tag_long (inl e) = rw e refl
  tag_long (inr e) = rw e refl

  pub hear_long : (k ≡ Hear) ⊎ (k ≡ WideHear) → slot_bytes (is_wide (kind_number k)) + 4 ≡ body_length (kind_number k)
  unfolding step_kind is_wide step_length if
  hear_long (inl e) = rw e refl
  hear_long (inr e) = rw e refl

  module _ (file : List ℕ) (i : ℕ) where
    pub opening_call : (k ≡ Opening) ⊎ (k ≡ WideOpening) → Open (plan_at (is_wide (kind_number k)) file i) ≡ call_at (kind_number k) file i
    unfolding step_kind step_at if
    opening_call (inl e) = rw e refl
    opening_call (inr e) = rw e refl

    pub hear_call : (k ≡ Hear) ⊎ (k ≡ WideHear)
        → Single (record { who = replica file i; act = HearSo (message_at (is_wide (kind_number k)) file (i + 1)) }) ≡ call_at (kind_number k) file i
    unfolding step_kind step_at act_at if
    hear_call (inl e) = rw e refl
    hear_call (inr e) = rw e refl

pub narrow : (k : Kind) → k ≢ WideHear → k ≢ WideOpening → 1 ≡ slot_bytes (is_wide (kind_number k))
unfolding is_wide if
narrow Opening a b = refl
narrow Submit a b = refl
narrow Relay a b = refl
narrow Begin a b = refl
narrow Hear a b = refl
narrow Advance a b = refl
narrow Crash a b = refl
narrow RunOn a b = refl
narrow WideOpening a b = absurd (b refl)
narrow WideHear a b = absurd (a refl)

pub short : (k : Kind) → k ≢ Opening → k ≢ WideOpening → k ≢ Submit → k ≢ Relay → k ≢ Hear → k ≢ WideHear → 1 ≡ body_length (kind_number k)
unfolding step_kind is_wide step_length if
short Opening a b c d e f = absurd (a refl)
short Submit a b c d e f = absurd (c refl)
short Relay a b c d e f = absurd (d refl)
short Begin a b c d e f = refl
short Hear a b c d e f = absurd (e refl)
short Advance a b c d e f = refl
short Crash a b c d e f = refl
short RunOn a b c d e f = refl
short WideOpening a b c d e f = absurd (b refl)
short WideHear a b c d e f = absurd (f refl)

pub few : (k : Kind) → kind_number k ≤ last_kind
few Opening = omega arith
few Submit = omega arith
few Relay = omega arith
few Begin = omega arith
few Hear = omega arith
few Advance = omega arith
few Crash = omega arith
few RunOn = omega arith
few WideOpening = omega arith
few WideHear = omega arith

-- what `?` hands on
pub stopped : (at : ℕ) {why : Refusal} (r : Result Read Refusal) → IsErrAnd r (λ e. e ≡ why) → why ≡ UnknownKind
    → staying at r ≡ read (Err UnknownKind) at
stopped at (Ok a) y h = absurd y
stopped at (Err e) y h = rw (y, h) refl
