-- What `judge` gives can be stored: each cell that its effect stores has a place.
use Prim.Native.Nat.{ℕ, suc, ◌≤◌, ◌<◌}
use native.Mathlib.Omega.{arith}
use mathlib.Core.Bool.{Bool, true, false, not, ◌&&◌}
use mathlib.Core.List.{List}
use mathlib.Core.Logic.{◌⊎◌, inl, inr, ⊎_elim}
use mathlib.Core.Path.{◌≡◌, refl, sym, ◌∙◌, ap, subst}
use lib.Dec.{ltb, eqb}
use lib.ListN.{length, take}
use lib.Seq.{length-take-le}
use borrow.Author.Tests.{ltb-false, lt-ltb, not-false}
use Rattle.model.specs.declared.Numbers.{Numbers}
use Rattle.model.specs.declared.ReplicaId.{ReplicaId}
use Rattle.model.specs.declared.Round.TheVariants.{Exchange, State, Vote, Find}
use Rattle.model.specs.declared.Sort.{Sort}
use Rattle.model.specs.declared.Sort.TheVariants.{Proposals, States, Votes}
use Rattle.model.specs.declared.Word.{Word}
use Rattle.model.specs.declared.Word.TheVariants.{Say, Unsure}
use Rattle.model.specs.declared.Effect.{Effect}
use Rattle.model.specs.declared.Effect.TheVariants.{Send}
use Rattle.model.specs.declared.Act.{Act}
use Rattle.model.specs.declared.Act.TheVariants.{Submit, Relay, Begin, Hear, Advance, Crash}
use Rattle.model.specs.declared.Step.{Step}
use Rattle.model.specs.Tests.{if, listed}
use Rattle.model.specs.Limits.{limited}
use Rattle.model.specs.Rack.{Replica}
use Rattle.model.specs.Rules.{majority_tag, vote_of, next_state, phase_in}
use Rattle.model.proofs.Cases.{or_false, if-ind, Unmet, unless_ind, unmet_both}
use Rattle.safety.specs.Comes.{ByRule, by_submit, by_relay, by_begin, by_hear, by_notice, by_exchange, by_state}
use Rattle.safety.specs.Comes.{by_outcome_0, by_outcome_1, by_seek, by_next_phase, by_find, by_crash}
use Rattle.safety.proofs.Comes.{past}
use Rattle.tables.specs.Layout.{Tables, known_in, record_end, record_at}
use Rattle.tables.specs.Addresses.{state_in, as_vote}
use Rattle.tables.specs.Bounds.{bounds}
use Rattle.tables.specs.View.{view}
use Rattle.tables.specs.Write.{word_number}
use Rattle.tables.specs.Checks.{spoiled, record_refusals}
use Rattle.tables.specs.Sound.{Sound, sound, record_there, own_view, in_state, seen_stands, seen_low, noticed_low}
use Rattle.tables.proofs.Sound.{own_counts}
use Rattle.tables.specs.Calls.{lent_refusals, judge}
use Rattle.messages.specs.Reach.{Fitting}
use Rattle.known.specs.Room.{Storable}
use Rattle.effects.specs.Doable.{RecordThere, Ready, Closable, Doable}

-- the number of a state or a vote fits its byte
say_fits : (b : Bool) → word_number (Say b) ≤ 3
say_fits true = omega arith
say_fits false = omega arith

vote_fits : (N : Numbers) (k : Replica) → word_number (vote_of N k) ≤ 3
vote_fits N k =
    if-ind (λ (w : Word). word_number w ≤ 3) _ (λ _. omega arith) (λ _. if-ind (λ (w : Word). word_number w ≤ 3) _ (λ _. omega arith) (λ _. omega arith))

module _ (N : Numbers) (t : Tables) where
  open N use {n, slots, phases, room}

  module _ (fine : Sound N t) (c : ℕ) (here : c < n) where
    -- the memories are long enough
    pub ready : Ready N c t
    ready = let l = fine.long in
        record { bounds = fine.within; who = here; known = fine.known; words = l.words; orders = l.orders; ballots = l.ballots }

    -- its slot can be closed
    closes : (record_at t.words c).slot < slots → Ready N c t × Closable N (record_at t.words c)
    closes l = (ready, record { low = l; counts = own_counts N fine here })

    -- what a send stores has its places
    sends : (so : Sort) (p : ℕ) (w : Word) → (record_at t.words c).slot < slots → phase_in N so p ≡ true → Fitting so w → Doable N c (Send so p w) t
    sends so p w l q f = (ready, record { sender = here; slot = l; phase = q }, f)

  -- proposals have phase 0
  phase_zero : phase_in N Proposals 0 ≡ true
  unfolding phase_in
  phase_zero = refl

  -- as many tags are known as the count says
  stored_room : Sound N t → (x : ℕ) → let known = take (known_in t.words) t.orders in
      (listed x known ≡ true) ⊎ (length known < room) → Storable N x (known_in t.words) t.orders
  stored_room fine x fits =
      let long = fine.long.orders in
      let few = fine.known in
      ⊎_elim (λ e. inl e) (λ l. inr (subst (λ (k : ℕ). k < room) (length-take-le (known_in t.words) t.orders (omega arith)) l)) fits

  -- what each rule gives
  by_rule : Sound N t → {c : ℕ} {a : Act} {e : Effect} → c < n → ByRule N (view N t) ((view N t).at c) a e → Doable N c e t
  by_rule fine {c} here (by_submit {x} ne free fits) = (ready fine c here, stored_room fine x fits)
  by_rule fine {c} here (by_relay {x} ne known free) = (ready fine c here, inl known)
  by_rule fine {c} here (by_begin idle open_slot some) =
      sends fine c here Proposals 0 Unsure (subst (λ (k : Replica). k.closed < slots) (own_view N t here) open_slot) phase_zero tt
  by_rule fine {c} here (by_hear so hd hs hp sent free) = (ready fine c here, record { sender = hd; slot = hs; phase = hp })
  by_rule fine {c} here (by_notice heard) = closes fine c here (noticed_low N t here heard)
  by_rule fine {c} here (by_exchange was enough) = let b = not (eqb (majority_tag N ((view N t).at c)) 0) in
      sends fine c here States 1 (Say b) (seen_low N fine here Exchange refl was) (state_in N 1 (omega arith) fine.within.phases_some) (say_fits b)
  by_rule fine {c} here (by_state was enough) = let k = (view N t).at c in
      sends fine c here Votes k.phase (vote_of N k) (seen_low N fine here State refl was)
      (subst (λ (k : Replica). phase_in N Votes k.phase ≡ true) (sym (own_view N t here))
      (as_vote N _ (in_state N _ _ (seen_stands N fine here State was)))) (vote_fits N k)
  by_rule fine {c} here (by_outcome_0 v o) = closes fine c here (seen_low N fine here Vote refl v.in_round)
  by_rule fine {c} here (by_outcome_1 v o some) = closes fine c here (seen_low N fine here Vote refl v.in_round)
  by_rule fine {c} here (by_seek v o none) = ready fine c here
  by_rule fine {c} here (by_next_phase flip v o more) = let k = (view N t).at c in let b = next_state N flip k in
      sends fine c here States (suc k.phase) (Say b) (seen_low N fine here Vote refl v.in_round) (state_in N (suc k.phase) (omega arith) (omega arith))
      (say_fits b)
  by_rule fine {c} here (by_find was some) = closes fine c here (seen_low N fine here Find refl was)
  by_rule fine {c} here by_crash = record { few = let b = fine.within.few in omega arith; there = record_there N fine here }

  -- a crash whose refusals are not met has its record
  crash_there : (c : ℕ) → c < n → Unmet (record_refusals N t c) → RecordThere c t.words
  unfolding Unmet
  crash_there c here (spoiled, (short, _)) = record {
    few = let b = (bounds N (not-false _ (or_false (not (limited N)) _ spoiled).0)).few in omega arith;
    there = ltb-false _ _ (sym (ap (λ (b : Bool). b && ltb (length t.words) (record_end c)) (lt-ltb c n here)) ∙ short);
  }

  -- behind the refusals of the memories
  lent_doable : (c : ReplicaId) (a : Act) {e : Effect} → Unmet (lent_refusals N (record { who = c; act = a }) t) → c.0 < n
      → ByRule N (view N t) ((view N t).at c.0) a e → Doable N c.0 e t
  unfolding if
  lent_doable c (Submit x) lent here r = by_rule (sound N t lent) here r
  lent_doable c (Relay x) lent here r = by_rule (sound N t lent) here r
  lent_doable c Begin lent here r = by_rule (sound N t lent) here r
  lent_doable c (Hear m) lent here r = by_rule (sound N t lent) here r
  lent_doable c Advance lent here r = by_rule (sound N t lent) here r
  lent_doable c Crash lent here by_crash = crash_there c.0 here lent

  -- and of any step
  pub judged_doable : (strip : List ℕ) (a : Step) → Doable N a.who.0 (judge N strip a t) t
  unfolding judge
  judged_doable strip a = unless_ind (λ (e : Effect). Doable N a.who.0 e t) _ (λ why. tt) (λ u.
      let (lent, rest) = unmet_both (lent_refusals N a t) _ u in
      let (acts, r) = past N (view N t) strip a rest in
      lent_doable a.who a.act lent acts.there r)
