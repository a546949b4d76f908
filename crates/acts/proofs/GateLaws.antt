-- What `judge` asks first is what the code asks first; and what is known behind it.
use Prim.Native.Nat.{ℕ, ◌*◌}
use mathlib.Core.Bool.{Bool, true, false, not, ◌||◌, or_self, or-false as or_no}
use mathlib.Core.List.{List, [], ◌∷◌}
use mathlib.Core.Path.{◌≡◌, refl, sym, ◌∙◌, ap}
use lib.Dec.{leb, ltb, eqb}
use lib.ListN.{length}
use borrow.Author.Tests.{leb-false, lt-leb, ltb-false, eqb-true, eq-eqb, not-false}
use Rattle.std.specs.Prelude.{Result, Ok, Err, ⊤}
use Rattle.std.specs.Result.{IsErrAnd}
use Rattle.std.proofs.lemmas.Result.{err_from_is_err_and}
use Rattle.model.specs.declared.Numbers.{Numbers}
use Rattle.model.specs.declared.ReplicaId.{ReplicaId}
use Rattle.model.specs.declared.Refusal.{Refusal}
use Rattle.model.specs.declared.Refusal.TheVariants.{ShortTable, SpoiledRecord, NoSuchReplica, Crashed}
use Rattle.model.specs.declared.Effect.{Effect}
use Rattle.model.specs.declared.Effect.TheVariants.{Refuse}
use Rattle.model.specs.declared.Act.{Act}
use Rattle.model.specs.declared.Act.TheVariants.{Submit, Relay, Begin, Hear, Advance, Crash}
use Rattle.tables.specs.declared.Record.{Record}
use Rattle.model.specs.Tests.{if}
use Rattle.model.specs.Limits.{limited}
use Rattle.model.specs.Rack.{Replica}
use Rattle.model.specs.TurnedAway.{Ground, unless, settle, effect_in}
use Rattle.model.specs.Rules.{is_crash, own_rule, strip_short}
use Rattle.model.proofs.Cases.{clash, or_false, or_none, Unmet, unless_map, none_met}
use Rattle.tables.specs.Layout.{Tables, known_in, record_at}
use Rattle.tables.specs.View.{replica_at, view}
use Rattle.tables.specs.Checks.{lengths, long, any_spoiled}
use Rattle.tables.specs.Sound.{sound, sound_unmet, own_view}
use Rattle.tables.specs.Calls.{judge}
use Rattle.refusals.specs.Vet.{first_asked, first_vetted}
use Rattle.acts.specs.Admitted.{other, Admitted}

-- what a `?` hands on
pub turned_away : {T : Type 0} {r : Result T Refusal} {why : Refusal} → IsErrAnd r (λ y. y ≡ why) → r ≡ Err why
turned_away {r = r} away = let p = err_from_is_err_and r away in p.1 ∙ ap Err p.2

-- ---- one list of refusals, read as what is vetted and as an effect

-- what is vetted
abbrev passing : List Ground → Result ⊤ Refusal
passing gs = unless Err gs (Ok tt)

-- where it passed, no refusal was met
pub passed_unmet : (gs : List Ground) → passing gs ≡ Ok tt → Unmet gs
unfolding unless Unmet if
passed_unmet [] e = tt
passed_unmet (g ∷ gs) e = go g.met refl e (passed_unmet gs)
  where
    go : (b : Bool) → g.met ≡ b → if b (Err g.why) (passing gs) ≡ Ok tt
        → (passing gs ≡ Ok tt → Unmet gs) → (g.met ≡ false) × Unmet gs
    go true q e below = cc
    go false q e below = (q, below e)

-- ---- `judge` behind what is asked first

module _ (N : Numbers) (strip : List ℕ) (t : Tables) (c : ReplicaId) where
  open N use {n, room}

  abbrev k : Record
  k = record_at t.words c.0

  abbrev here : Replica
  here = replica_at N t c.0

  -- refusals 3 and 2, and those of the rule for a replica of the view
  abbrev checked : Effect → Effect
  checked e =
      if (not (limited N) || (ltb room (known_in t.words) || any_spoiled N t.words)) (Refuse SpoiledRecord)
      (if (not (long N (lengths t))) (Refuse ShortTable) (if (ltb (length strip) (N.slots * N.phases)) (Refuse ShortTable) e))

  -- refusals 4 and 5 before a rule: a replica that is none of the run's is never looked at
  pub admits : (own : Replica → Effect) (nobody none : Bool) → (leb n c.0 || nobody) ≡ (leb n c.0 || none)
      → let v = (view N t).at c.0 in
      if (leb n c.0 || nobody) (Refuse NoSuchReplica) (if v.crashed (Refuse Crashed) (own v))
      ≡ if (leb n c.0 || none) (Refuse NoSuchReplica) (if (not (eqb k.crashed 0)) (Refuse Crashed) (own here))
  unfolding if
  admits own nobody none = go (leb n c.0) refl
    where
      go : (b : Bool) → leb n c.0 ≡ b → (b || nobody) ≡ (b || none) → let v = (view N t).at c.0 in
          if (b || nobody) (Refuse NoSuchReplica) (if v.crashed (Refuse Crashed) (own v))
          ≡ if (b || none) (Refuse NoSuchReplica) (if (not (eqb k.crashed 0)) (Refuse Crashed) (own here))
      go true e same = refl
      go false e same =
          (λ i. if (same i) (Refuse NoSuchReplica) (if ((view N t).at c.0).crashed (Refuse Crashed) (own ((view N t).at c.0))))
          ∙ ap (λ (v : Replica). if none (Refuse NoSuchReplica) (if v.crashed (Refuse Crashed) (own v))) (own_view N t (leb-false _ _ e))

  -- a step that names no other replica
  alone : (b : Bool) → (b || false) ≡ (b || b)
  alone b = or_no b ∙ sym (or_self b)

  abbrev ruled : Act → Replica → Effect
  ruled a r = settle (own_rule N strip a (view N t) r)

  pub judge_behind : (a : Act) → is_crash a ≡ false
      → judge N strip (record { who = c; act = a }) t
      ≡ unless Refuse (first_asked N c.0 (other c.0 a) (lengths t) (length strip) t.words) (ruled a here)
  unfolding judge unless if
  judge_behind (Submit x) e = ap checked (admits (ruled (Submit x)) false _ (alone (leb n c.0)))
  judge_behind (Relay x) e = ap checked (admits (ruled (Relay x)) false _ (alone (leb n c.0)))
  judge_behind Begin e = ap checked (admits (ruled Begin) false _ (alone (leb n c.0)))
  judge_behind (Hear m) e = ap checked (admits (ruled (Hear m)) _ _ refl)
  judge_behind Advance e = ap checked (admits (ruled Advance) false _ (alone (leb n c.0)))
  judge_behind Crash e = clash (sym e)

  -- ---- behind what the code has vetted

  module _ (a : Act) (alive : is_crash a ≡ false) where
    judged : effect_in (λ _. ruled a here) (first_vetted N c.0 (other c.0 a) (length strip) t) ≡ judge N strip (record { who = c; act = a }) t
    unfolding first_vetted
    judged = unless_map (effect_in (λ _. ruled a here)) Err (Ok tt) _ ∙ sym (judge_behind a alive)

    pub judge_stops : {why : Refusal} → Err why ≡ first_vetted N c.0 (other c.0 a) (length strip) t → Refuse why ≡ judge N strip (record { who = c; act = a }) t
    judge_stops e = ap (effect_in (λ _. ruled a here)) e ∙ judged

    pub judge_ends : {T : Type 0} (good : T → Effect) (r : Result T Refusal) {why : Refusal} → IsErrAnd r (λ y. y ≡ why)
        → Err why ≡ first_vetted N c.0 (other c.0 a) (length strip) t → effect_in good r ≡ judge N strip (record { who = c; act = a }) t
    judge_ends good r away e = ap (effect_in good) (turned_away away) ∙ judge_stops e

    pub judge_rules : {r : Effect} → Ok tt ≡ first_vetted N c.0 (other c.0 a) (length strip) t → r ≡ ruled a here
        → r ≡ judge N strip (record { who = c; act = a }) t
    judge_rules e q = q ∙ ap (effect_in (λ _. ruled a here)) e ∙ judged

-- where the code's first refusals passed
pub admitted : {N : Numbers} {c d strip : ℕ} {t : Tables} → Ok tt ≡ first_vetted N c d strip t → Admitted N c d strip t
unfolding first_vetted Unmet
admitted {N} {c} {d} {strip} {t} e =
    let (spoiled, (short, (few, (nobody, (dark, _))))) = passed_unmet (first_asked N c d (lengths t) strip t.words) (sym e) in
    let (there, named) = or_false (leb N.n c) _ nobody in
    record {
      fine = sound N t (spoiled, (short, tt));
      coins = ltb-false _ _ few;
      who = leb-false _ _ there;
      named = leb-false _ _ named;
      running = eqb-true _ _ (not-false _ dark);
    }

-- ---- a step where no first refusal is met

module _ {N : Numbers} {c d st : ℕ} {t : Tables} (l : Admitted N c d st t) where
  -- none is met with any strip that is long enough
  pub asked_unmet : (strip : ℕ) → ltb strip (N.slots * N.phases) ≡ false → Unmet (first_asked N c d (lengths t) strip t.words)
  unfolding Unmet
  asked_unmet strip long =
      let (spoiled, (short, _)) = sound_unmet N l.fine in
      (spoiled, (short, (long, (or_none _ _ (lt-leb _ _ l.who) (lt-leb _ _ l.named), (ap not (eq-eqb _ 0 l.running), tt)))))

-- it comes to its rule
pub admitted_rules : (N : Numbers) (strip : List ℕ) (t : Tables) (c : ReplicaId) (a : Act) → is_crash a ≡ false → {st : ℕ}
    → Admitted N c.0 (other c.0 a) st t → strip_short N strip ≡ false
    → judge N strip (record { who = c; act = a }) t ≡ settle (own_rule N strip a (view N t) (replica_at N t c.0))
admitted_rules N strip t c a alive l long = judge_behind N strip t c a alive ∙ none_met Refuse _ _ (asked_unmet l (length strip) long)
