-- A hear of a message of the run, where no first refusal is met: unsent, already heard, or marked. It looks up no coin, so that every
-- strip that is long enough goes with it.
use Prim.Native.Nat.{ℕ, ◌*◌, ◌<◌}
use native.Mathlib.Nat.{le_refl}
use native.Mathlib.Omega.{arith}
use mathlib.Core.Bool.{Bool, true, false, not, ◌&&◌, ◌||◌}
use mathlib.Core.List.{List}
use mathlib.Core.Path.{◌≡◌, refl, sym, ◌∙◌, ap}
use lib.Dec.{leb}
use lib.ListN.{length, get_or, set, replicate, length-replicate}
use borrow.Author.Tests.{le-ltb, lt-leb, not-true}
use Rattle.model.specs.declared.Numbers.{Numbers}
use Rattle.model.specs.declared.Refusal.{Refusal}
use Rattle.model.specs.declared.Sort.{Sort}
use Rattle.model.specs.declared.Sort.TheVariants.{Proposals, States, Votes}
use Rattle.model.specs.declared.Word.{Word}
use Rattle.model.specs.declared.Message.{Message}
use Rattle.model.specs.declared.Effect.{Effect}
use Rattle.model.specs.declared.Effect.TheVariants.{Refuse}
use Rattle.model.specs.declared.Act.TheVariants.{Hear}
use Rattle.model.specs.Rack.{sort_number, is_sent}
use Rattle.model.specs.Rules.{phase_in, strip_short}
use Rattle.model.specs.Conductor.{numbered, does, hear}
use Rattle.model.proofs.Cases.{clash, and_true, or_none, sort_back}
use Rattle.tables.specs.Layout.{Tables, mask_bits, with_bit, heard_cell}
use Rattle.tables.specs.View.{counts_for, sent_words}
use Rattle.tables.specs.declared.Address.{Address}
use Rattle.tables.specs.Bounds.{Bounds}
use Rattle.tables.specs.Addresses.{Within, Addressed, state_in, as_vote}
use Rattle.tables.specs.Calls.{tables, judge}
use Rattle.messages.proofs.HearLaws.{Heard, not_sent, already, received, sort_heard}
use Rattle.messages.specs.Reach.{Reach}
use Rattle.acts.specs.Admitted.{Admitted}
use Rattle.acts.proofs.GateLaws.{admitted_rules}
use Rattle.acts.proofs.RuleLaws.{hears}
use Rattle.acts.proofs.StepLaws.{stays}
use Rattle.acts.proofs.ActLaws.{hear_made}
use Rattle.rounds.specs.Made.{Made, Listening, InRange}
use Rattle.rounds.proofs.MadeLaws.{made_one}

-- ---- the messages of the exchange and of phase 1

pub exchange_in : (N : Numbers) → phase_in N Proposals 0 ≡ true
unfolding phase_in
exchange_in N = refl

pub phase_1_in : {N : Numbers} → Bounds N → (phase_in N States 1 ≡ true) × (phase_in N Votes 1 ≡ true)
phase_1_in {N} b = let state = state_in N 1 (le_refl 1) b.phases_some in (state, as_vote N 1 state)

pub of_run : {N : Numbers} {so : Sort} {s p d : ℕ} → InRange N so s p → d < N.n → Within N so s p d
of_run range there = record { sender = there; slot = range.0; phase = range.1 }

-- ---- a strip that is just long enough

abbrev pub some_strip : Numbers → List ℕ
some_strip N = replicate (N.slots * N.phases) 0

pub some_long : (N : Numbers) → strip_short N (some_strip N) ≡ false
some_long N = let k = N.slots * N.phases in le-ltb (length (some_strip N)) k (rw length-replicate (le_refl k))

module _ (N : Numbers) (t : Tables) (c : ℕ) (at : Address) (l : Listening N c t) (there : Addressed N at) where
  abbrev m : Message
  m = record { sort = sort_number at.sort; slot = record { 0 = at.slot }; phase = record { 0 = at.phase }; sender = numbered at.sender }

  abbrev cell : ℕ
  cell = heard_cell N at.sort at.slot at.phase at.sender

  abbrev word : Word
  word = sent_words N t.words t.orders t.ballots at.sort at.slot at.phase at.sender

  abbrev mark : Bool
  mark = counts_for c at.sender (get_or t.words cell 0)

  abbrev Hears : List ℕ → Tables → ℕ → Type 0
  Hears strip u k = Made N strip (does (hear (sort_number at.sort) at.slot at.phase at.sender) c) t u k

  admitted : Admitted N c at.sender (N.slots * N.phases) t
  admitted = record { fine = l.fine; coins = le_refl _; who = l.who; named = there.sender; running = l.running }

  in_range : (leb N.slots at.slot || not (phase_in N at.sort at.phase)) ≡ false
  in_range = or_none _ _ (lt-leb _ _ there.slot) (ap not there.phase)

  module _ (strip : List ℕ) (long : strip_short N strip ≡ false) where
    -- what the rule comes to, the step does
    judged : {e : Effect} → Heard N t.words t.orders t.ballots c m at.sort e → e ≡ judge N strip (record { who = numbered c; act = Hear m }) t
    judged q = hears N strip c t m (sort_heard N _ _ m (sym (sort_back at.sort)) q)
        ∙ sym (admitted_rules N strip t (numbered c) (Hear m) refl admitted long)

    -- it is refused: nothing is stored
    refused : {why : Refusal} → Heard N t.words t.orders t.ballots c m at.sort (Refuse why) → Hears strip t 0
    refused q = made_one N strip _ t (stays N strip _ t (judged q) refl refl refl) refl

    -- it is refused, or it is heard
    pub made_refused : (is_sent word && not mark) ≡ false → Hears strip t 0
    made_refused e = go (is_sent word) mark refl refl e
      where
        go : (b k : Bool) → is_sent word ≡ b → mark ≡ k → (b && not k) ≡ false → Hears strip t 0
        go false k sent has q = refused (not_sent N t.words t.orders t.ballots c m at.sort there.sender in_range refl sent)
        go true true sent has q = refused (already N t.words t.orders t.ballots c m at.sort there.sender in_range refl sent refl has)
        go true false sent has q = clash (sym q)

    pub made_heard : (is_sent word && not mark) ≡ true → {ws : List ℕ} → ws ≡ set t.words cell (with_bit (get_or t.words cell 0) c)
        → Hears strip (tables ws t.orders t.ballots) 1
    made_heard e q = let (sent, has) = and_true (is_sent word) _ e in made_one N strip _ t (hear_made N strip _ t
        (judged (received N t.words t.orders t.ballots c m at.sort there.sender in_range refl sent refl (not-true _ has))) q) refl

-- what a look at a message asks
pub looks : {N : Numbers} {c : ℕ} {t : Tables} → Listening N c t → (c < mask_bits) × Reach N t
looks l = let f = l.fine in let here = l.who in let few = f.within.few in
    (omega arith, record { bounds = f.within; words = f.long.words; orders = f.long.orders; ballots = f.long.ballots })
