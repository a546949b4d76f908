-- What the calls keep: a refusal changes nothing at all, no call changes the length of a table or strip, and a step stores
-- only in the tables that its rule speaks of.
use Prim.Native.Nat.{ℕ, zero, suc, ◌≤◌, ◌<◌}
use Rattle.std.proofs.Common.{arith, inl, inr, ⊎_elim, sym, ◌∙◌, length-append, length-drop, length-set, length-take-le}
use Rattle.std.specs.Prelude.{Bool, not, ◌||◌, ◌⊎◌, List, [], ◌∷◌, ◌≡◌, leb, ltb, eqb, length, take, set as store_at}
use Rattle.std.proofs.Math.Bool.{true, false}
use Rattle.std.proofs.Math.Option.{none}
use Rattle.std.proofs.Math.Path.{refl, ap, subst}
use Rattle.std.proofs.lemmas.List.{length-replicate}
use borrow.Author.Tests.{leb-true, ltb-false, lt-ltb, not-false}
use Rattle.tables.specs.declared.Record.{Record}
use Rattle.tables.specs.Types.{Numbers, Plan, ReplicaId, Sort, Proposals, States, Votes, Notices, Refusal, Effect, Refuse}
use Rattle.tables.specs.Types.{Hold, Send, Close, Seek, Receive, Halt, Act, Submit, Relay, Begin, Hear, Advance}
use Rattle.tables.specs.Types.{Crash, Step, Call, Open, Single, RunOn, Conduct, Answer, Refused, Done, Ran, Opened}
use Rattle.model.specs.Tests.{if, some, listed}
use Rattle.model.specs.Limits.{limited, planned}
use Rattle.model.specs.Rules.{is_crash}
use Rattle.model.specs.Conductor.{relay_steps, conduct_steps}
use Rattle.model.specs.Scripts.{Script, Played, play, answered, single, advance, running, most_advances, run_on, conduct}
use Rattle.coin.specs.Strip.{StripOutcome, strip_refusals, strip_filled}
use Rattle.coin.specs.Law.{length_filled}
use Rattle.model.proofs.Cases.{clash, and_true, or_false, if-ind, Unmet, unless_ind}
use Rattle.model.proofs.Playing.{play_keeps}
use Rattle.model.proofs.Sequences.{conducts_by, conducted_by}
use Rattle.tables.specs.Layout.{Tables, known_in, record_at, record_stored, heard_cell}
use Rattle.tables.specs.Layout.{words_need, orders_need}
use Rattle.tables.specs.View.{only, view}
use Rattle.tables.specs.Write.{place_in, proposal_stored, ballot_stored, orders_held, words_held, write}
use Rattle.tables.specs.Checks.{lengths, long, tables_refusals, record_refusals}
use Rattle.tables.specs.Calls.{CrashOutcome, crash_refusals, crashed, lent_refusals, judge, performed, on_tables}
use Rattle.tables.specs.Calls.{stepped, ran_on, conducted, cleared, opened, OpenOutcome, opening_refusals, open_rack, called}
use Rattle.tables.specs.Bounds.{is_long}
use Rattle.tables.specs.Sections.{agree_self, agree_more, elsewhere, record_elsewhere, SameHead}
use Rattle.tables.specs.Sections.{SameRecords, SameHolders, SameHeard, SameTags, SameProposals, SameLogs}
use Rattle.promises.specs.Order.{turned_away, conductor_refusals}
use Rattle.promises.specs.Refusals.{running_accepts}

-- ---- "A refusal returns its number and changes nothing at all." Of the strip call and of the
-- archive's, the crates coin and archive prove it.

-- an answer that accepts is no refusal
accepting : {A : Type 0} (good : Answer) → turned_away good ≡ none → (why : Refusal) → good ≡ Refused why → A
accepting good h why q = absurd (let r = sym h ∙ ap turned_away q in let z : ◌≡◌ {A = ℕ} 0 1 = cc in omega arith)

-- and an answer that refuses is the one of an effect that does
refused_effect : (good : Answer) → turned_away good ≡ none → (why : Refusal) (e : Effect) → answered good e ≡ Refused why → e ≡ Refuse why
refused_effect good h why =
    elim [ Refuse w ↦ λ q. cc | Hold x ↦ never | Send so p w ↦ never | Close x own ↦ never | Seek ↦ never | Receive so s p d w ↦ never | Halt ↦ never ]
  where
    never : {e : Effect} → good ≡ Refused why → e ≡ Refuse why
    never = accepting good h why

module _ (N : Numbers) (strip : List ℕ) where
  pub refused_step_unchanged : (a : Step) (t : Tables) (why : Refusal) → (stepped N strip a t).answer ≡ Refused why → (stepped N strip a t).state ≡ t
  unfolding stepped play write
  refused_step_unchanged a t why q = rw (refused_effect Done refl why (judge N strip a t) q)

  -- refused, a run on made no advance that was accepted
  stays : (c : ReplicaId) (t : Tables) (why : Refusal) (most : ℕ)
      → let p = play (on_tables N strip) (running c most 0) t in p.answer ≡ Refused why → p.state ≡ t
  unfolding running play write
  stays c t why zero q = accepting (Ran 0) refl why q
  stays c t why (suc most) q = let next = performed N strip (advance c) t in
      if-ind (λ (x : Script). let p = play (on_tables N strip) x next in p.answer ≡ Refused why → p.state ≡ t) _
      (λ _ q. accepting _ (running_accepts N strip c most 0 next) why q)
      (λ _ q. ap (λ (e : Effect). write N c.0 e t) (refused_effect (Ran 1) refl why (judge N strip (advance c) t) q)) q

  pub refused_run_on_unchanged : (c : ReplicaId) (t : Tables) (why : Refusal) → (ran_on N strip c t).answer ≡ Refused why → (ran_on N strip c t).state ≡ t
  unfolding ran_on
  refused_run_on_unchanged c t why q = stays c t why (most_advances N) q

  pub refused_conduct_unchanged : (t : Tables) (why : Refusal) → (conducted N strip t).answer ≡ Refused why → (conducted N strip t).state ≡ t
  unfolding conducted
  refused_conduct_unchanged t why = let r = view N t in
      subst (λ (o : Played Tables). o.answer ≡ Refused why → o.state ≡ t) (sym (conducts_by (on_tables N strip) N t))
      (unless_ind (λ (o : Played Tables). o.answer ≡ Refused why → o.state ≡ t) (conductor_refusals N strip t) (λ w e. refl)
      (λ _. accepting _ (ap (λ (o : Played Tables). turned_away o.answer)
      (conducted_by (on_tables N strip) (relay_steps N r) (conduct_steps N r) t)) why))

pub refused_crash_unchanged : (N : Numbers) (c : ℕ) (k : Record) (why : Refusal) → (crashed N c k).answer ≡ Refused why → (crashed N c k).after ≡ k
unfolding crashed
refused_crash_unchanged N c k why =
    unless_ind (λ (o : CrashOutcome). o.answer ≡ Refused why → o.after ≡ k) (crash_refusals N c k) (λ w e. refl) (λ _. accepting Done refl why)

pub refused_opening_unchanged : (q : Plan) (t : Tables) (strip : List ℕ) (why : Refusal) → (open_rack q t strip).answer ≡ Refused why
    → ((open_rack q t strip).tables ≡ t) × ((open_rack q t strip).strip ≡ strip)
unfolding open_rack
refused_opening_unchanged q t strip why = unless_ind (λ (o : OpenOutcome). o.answer ≡ Refused why → (o.tables ≡ t) × (o.strip ≡ strip))
    (opening_refusals q t strip) (λ w e. (refl, refl)) (λ _. accepting (Opened (planned q)) refl why)

pub refused_unchanged : (N : Numbers) (a : Call) (t : Tables) (strip : List ℕ) (why : Refusal) → (called N a t strip).answer ≡ Refused why
    → ((called N a t strip).tables ≡ t) × ((called N a t strip).strip ≡ strip)
unfolding called
refused_unchanged N (Open q) t strip why e = refused_opening_unchanged q t strip why e
refused_unchanged N (Single a) t strip why e = (refused_step_unchanged N strip a t why e, refl)
refused_unchanged N (RunOn c) t strip why e = (refused_run_on_unchanged N strip c t why e, refl)
refused_unchanged N Conduct t strip why e = (refused_conduct_unchanged N strip t why e, refl)

-- ---- lengths

record_length : (rs : List ℕ) (c : ℕ) (k : Record) → length (record_stored rs c k) ≡ length rs
unfolding record_stored
record_length rs c k = simp length-set

proposals_length : (so : Sort) (i v : ℕ) (l : List ℕ) → length (proposal_stored so i v l) ≡ length l
proposals_length Proposals i v l = length-set l i v
proposals_length States i v l = refl
proposals_length Votes i v l = refl
proposals_length Notices i v l = refl

ballots_length : (so : Sort) (i v : ℕ) (l : List ℕ) → length (ballot_stored so i v l) ≡ length l
ballots_length Proposals i v l = refl
ballots_length States i v l = length-set l i v
ballots_length Votes i v l = length-set l i v
ballots_length Notices i v l = refl

tags_length : (x k : ℕ) (os : List ℕ) → length (orders_held x k os) ≡ length os
tags_length x k os = if-ind (λ (l : List ℕ). length l ≡ length os) _ (λ _. refl) (λ _. rw length-set)

holders_length : (N : Numbers) (c x : ℕ) (os ws : List ℕ) → length (words_held N c x os ws) ≡ length ws
holders_length N c x os ws = if-ind (λ (l : List ℕ). length l ≡ length ws) _ (λ _. rw length-set) (λ _. simp length-set)

write_lengths : (N : Numbers) (c : ℕ) (e : Effect) (t : Tables) → lengths (write N c e t) ≡ lengths t
unfolding write
write_lengths N c (Refuse why) t = refl
write_lengths N c (Hold x) t = simp (tags_length, holders_length)
write_lengths N c (Send so p w) t = simp (record_length, proposals_length, ballots_length, length-set)
write_lengths N c (Close x own) t = simp (record_length, length-set)
write_lengths N c Seek t = simp record_length
write_lengths N c (Receive so s p d w) t = simp length-set
write_lengths N c Halt t = simp record_length

cleared_length : (N : Numbers) (k : ℕ) (l : List ℕ) → leb k (length l) ≡ true → length (cleared N k l) ≡ length l
cleared_length N k l e = let h = leb-true k (length l) e in rw (length-append, length-replicate, length-drop) (omega arith)

opened_lengths : (N : Numbers) (t : Tables) → long N (lengths t) ≡ true → lengths (opened N t) ≡ lengths t
unfolding opened long
opened_lengths N t e =
    let l = lengths t in
    let (a, e₁) = and_true (leb (words_need N) l.words) _ e in
    let (b, c) = and_true (leb (orders_need N) l.orders) _ e₁ in
    simp cleared_length

module _ (N : Numbers) (strip : List ℕ) where
  script_lengths : (x : Script) (t : Tables) → lengths (play (on_tables N strip) x t).state ≡ lengths t
  script_lengths x t = play_keeps (on_tables N strip) (λ (u : Tables). lengths u ≡ lengths t) (λ a u e. write_lengths N _ (judge N strip a u) u ∙ e) x t refl

  pub step_lengths_kept : (a : Step) (t : Tables) → lengths (stepped N strip a t).state ≡ lengths t
  unfolding stepped
  step_lengths_kept a t = script_lengths (single a) t

  pub run_on_lengths_kept : (c : ReplicaId) (t : Tables) → lengths (ran_on N strip c t).state ≡ lengths t
  unfolding ran_on
  run_on_lengths_kept c t = script_lengths (run_on N c) t

  pub conduct_lengths_kept : (t : Tables) → lengths (conducted N strip t).state ≡ lengths t
  unfolding conducted
  conduct_lengths_kept t = script_lengths (conduct N) t

pub opening_lengths_kept : (q : Plan) (t : Tables) (strip : List ℕ)
    → (lengths (open_rack q t strip).tables ≡ lengths t) × (length (open_rack q t strip).strip ≡ length strip)
unfolding open_rack Unmet
opening_lengths_kept q t strip = let N = planned q in
    unless_ind (λ (o : OpenOutcome). (lengths o.tables ≡ lengths t) × (length o.strip ≡ length strip)) (opening_refusals q t strip)
    (λ _. (refl, refl)) (λ u.
    let (a, b) = or_false (not (long N (lengths t))) _ u.1.0 in
    (opened_lengths N t (not-false _ a), length_filled N.slots N.phases q.start strip (ltb-false _ _ b)))

pub strip_length_kept : (slots phases start : ℕ) (strip : List ℕ) → length (strip_filled slots phases start strip).strip ≡ length strip
unfolding strip_filled Unmet
strip_length_kept slots phases start strip = unless_ind (λ (o : StripOutcome). length o.strip ≡ length strip) (strip_refusals slots phases start strip)
    (λ _. refl) (λ u. length_filled slots phases start strip (ltb-false _ _ u.1.0))

pub lengths_kept : (N : Numbers) (a : Call) (t : Tables) (strip : List ℕ)
    → (lengths (called N a t strip).tables ≡ lengths t) × (length (called N a t strip).strip ≡ length strip)
unfolding called
lengths_kept N (Open q) t strip = opening_lengths_kept q t strip
lengths_kept N (Single a) t strip = (step_lengths_kept N strip a t, refl)
lengths_kept N (RunOn c) t strip = (run_on_lengths_kept N strip c t, refl)
lengths_kept N Conduct t strip = (conduct_lengths_kept N strip t, refl)

-- ---- the sections that a step may change

place_inside : (x : ℕ) (xs : List ℕ) → listed x xs ≡ true → place_in x xs < length xs
unfolding place_in some if
place_inside x [] e = clash e
place_inside x (y ∷ ys) e = go (eqb x y) e (place_inside x ys)
  where
    go : (b : Bool) → (b || listed x ys) ≡ true → (listed x ys ≡ true → place_in x ys < length ys) → if b 0 (suc (place_in x ys)) < suc (length ys)
    go true h below = omega arith
    go false h below = let a = below h in omega arith

-- the memories before and after a step: what it keeps. It may change the other sections, which stand above each.
module _ (N : Numbers) (t u : Tables) where
  abbrev SameOrders : Type 0
  SameOrders = SameHead N t.words u.words × SameHolders N t.words u.words × SameTags N t.orders u.orders

  abbrev pub HeldOnly : Type 0
  HeldOnly = SameRecords N t.words u.words × SameHeard N t.words u.words × SameProposals N t.orders u.orders
      × SameLogs N t.orders u.orders × (u.ballots ≡ t.ballots)

  abbrev pub TouchesOnly : Act → Type 0
  -- known, tags, holders
  TouchesOnly (Submit x) = HeldOnly
  TouchesOnly (Relay x) = HeldOnly
  -- records, proposals, heard
  TouchesOnly Begin = SameOrders × SameLogs N t.orders u.orders × (u.ballots ≡ t.ballots)
  -- heard
  TouchesOnly (Hear m) = SameOrders × SameRecords N t.words u.words × (u.orders ≡ t.orders) × (u.ballots ≡ t.ballots)
  -- records, ballots, heard, logs
  TouchesOnly Advance = SameOrders × SameProposals N t.orders u.orders
  -- records
  TouchesOnly Crash = SameOrders × SameHeard N t.words u.words × (u.orders ≡ t.orders) × (u.ballots ≡ t.ballots)

module _ (N : Numbers) (strip : List ℕ) where
  same_orders : (t : Tables) → SameOrders N t t
  same_orders t = (agree_self _, agree_self _, agree_self _)

  pub untouched : (t : Tables) (a : Act) → TouchesOnly N t t a
  untouched t (Submit x) = (agree_self _, agree_self _, agree_self _, agree_self _, refl)
  untouched t (Relay x) = (agree_self _, agree_self _, agree_self _, agree_self _, refl)
  untouched t Begin = (same_orders t, agree_self _, refl)
  untouched t (Hear m) = (same_orders t, agree_self _, refl, refl)
  untouched t Advance = (same_orders t, agree_self _)
  untouched t Crash = (same_orders t, agree_self _, refl, refl)

  module _ (t : Tables) where
    abbrev pub ws : List ℕ
    ws = t.words

    abbrev pub os : List ℕ
    os = t.orders

    abbrev pub k : ℕ
    k = known_in ws

    -- a record is stored in the section of records; a mark behind the holders
    module _ (ws' : List ℕ) (c : ℕ) (there : c < N.n) (k : Record) where
      head_kept : SameHead N ws' (record_stored ws' c k)
      head_kept = record_elsewhere ws' c k (inr (omega arith))

      holders_kept : SameHolders N ws' (record_stored ws' c k)
      holders_kept = record_elsewhere ws' c k (inl (omega arith))

      pub heard_kept : SameHeard N ws' (record_stored ws' c k)
      heard_kept = record_elsewhere ws' c k (inl (omega arith))

    pub marked_head : (so : Sort) (s p d v : ℕ) → SameHead N ws (store_at ws (heard_cell N so s p d) v)
    marked_head so s p d v = elsewhere ws _ v (inr (omega arith))

    pub marked_holders : (so : Sort) (s p d v : ℕ) → SameHolders N ws (store_at ws (heard_cell N so s p d) v)
    marked_holders so s p d v = elsewhere ws _ v (inr (omega arith))

    pub sends_keeps : (c : ℕ) → c < N.n → (so : Sort) (s p v : ℕ) (k : Record) {os' : List ℕ} → SameTags N os os'
        → (SameHead N ws (record_stored (store_at ws (heard_cell N so s p c) v) c k))
        × (SameHolders N ws (record_stored (store_at ws (heard_cell N so s p c) v) c k)) × (SameTags N os os')
    sends_keeps c there so s p v k tags =
        (agree_more (marked_head so s p c v) (head_kept _ c there k), agree_more (marked_holders so s p c v) (holders_kept _ c there k), tags)

    pub record_keeps : (c : ℕ) → c < N.n → (k : Record) {os' : List ℕ} → SameTags N os os'
        → (SameHead N ws (record_stored ws c k)) × (SameHolders N ws (record_stored ws c k)) × (SameTags N os os')
    record_keeps c there k tags = (head_kept ws c there k, holders_kept ws c there k, tags)

    -- the checks leave known that the tags are within the room
    pub hold_touches : k ≤ N.room → k ≤ length os → (c x : ℕ) → (listed x (take k os) ≡ true) ⊎ (length (take k os) < N.room)
        → HeldOnly N t (write N c (Hold x) t)
    unfolding write
    hold_touches few long c x fits = (
      if-ind (SameRecords N ws) _ (λ e. elsewhere ws _ _ (inr (omega arith)))
          (λ e. agree_more (elsewhere ws _ _ (inr (omega arith))) (elsewhere _ 0 _ (inl (omega arith)))),
      if-ind (SameHeard N ws) _ (λ e. let l = place_low e in elsewhere ws _ _ (inl (omega arith)))
          (λ e. let l = room_left e in agree_more (elsewhere ws _ _ (inl (omega arith))) (elsewhere _ 0 _ (inl (omega arith)))),
      if-ind (SameProposals N os) _ (λ e. agree_self os) (λ e. let l = room_left e in elsewhere os _ _ (inl (omega arith))),
      if-ind (SameLogs N os) _ (λ e. agree_self os) (λ e. let l = room_left e in elsewhere os _ _ (inl (omega arith))),
      refl,
    )
      where
        place_low : listed x (take k os) ≡ true → place_in x (take k os) < k
        place_low e = subst (λ (b : ℕ). place_in x (take k os) < b) (length-take-le k os long) (place_inside x (take k os) e)

        room_left : listed x (take k os) ≡ false → k < N.room
        room_left e = ⊎_elim (λ q. clash (sym e ∙ q)) (λ l. subst (λ (j : ℕ). j < N.room) (length-take-le k os long) l) fits

    pub closing_touches : (c : ℕ) → c < N.n → (x : ℕ) (own : Bool) → TouchesOnly N t (write N c (Close x own) t) Advance
    unfolding write
    closing_touches c there x own = (sends_keeps c there Notices _ 0 _ _ (elsewhere os _ x (inr (omega arith))), elsewhere os _ x (inr (omega arith)))

    pub slot_low : (c : ℕ) → c < N.n → ((view N t).at c).closed < N.slots → (record_at ws c).slot < N.slots
    unfolding only if
    slot_low c there l = rw (lt-ltb c N.n there) at l

    -- what the refusals of what is lent leave known
    pub lent_few : (c : ReplicaId) (a : Act) → is_crash a ≡ false → Unmet (lent_refusals N (record { who = c; act = a }) t) → (k ≤ N.room) × (k ≤ length os)
    unfolding Unmet if
    lent_few c a e u =
        let (spoiled, (short, _)) = subst (λ (b : Bool). Unmet (if b (record_refusals N t c.0) (tables_refusals N t))) e u in
        let few = ltb-false _ _ (or_false (ltb N.room k) _ (or_false (not (limited N)) _ spoiled).1).0 in
        let enough = (is_long N (lengths t) (not-false _ short)).orders in (few, omega arith)

  -- what every advance keeps, a run on keeps
  pub running_keeps : (c : ReplicaId) (P : Tables → Type 0) → ((t : Tables) → P t → P (performed N strip (advance c) t))
      → (most k : ℕ) (t : Tables) → P t → P (play (on_tables N strip) (running c most k) t).state
  unfolding running play
  running_keeps c P step zero k t p = p
  running_keeps c P step (suc most) k t p = let u = performed N strip (advance c) t in let q = step t p in
      if-ind (λ (x : Script). P (play (on_tables N strip) x u).state) _ (λ _. running_keeps c P step most (suc k) u q) (λ _. q)
