-- The conductor: one law for each way out, and that the steps by masks are those by the rack.
use Prim.Native.Nat.{ℕ, ◌-◌, ◌*◌, ◌<◌, ◌≤◌}
use mathlib.Core.Bool.{Bool, true, false, not, ◌&&◌}
use Rattle.std.specs.Prelude.{Result, Ok, Err, ⊤}
use Rattle.std.specs.Result.{IsErrAnd}
use mathlib.Core.List.{List, [], ◌∷◌, ◌++◌}
use mathlib.Core.Logic.{◌≢◌}
use mathlib.Core.Path.{◌≡◌, sym, ◌∙◌, ap, ap₂, fun_ext}
use lib.Dec.{eqb}
use lib.ListN.{length}
use borrow.Author.Tests.{lt-ltb, le-ltb, le-leb, lt-leb, eq-eqb, ne_eqb, eqb-true, not-true, not-false}
use Rattle.model.specs.declared.Numbers.{Numbers}
use Rattle.model.specs.declared.Refusal.{Refusal}
use Rattle.model.specs.declared.Refusal.TheVariants.{ShortTable, SpoiledRecord, LogFull, NothingPending, NotLevel, TooFewRunning}
use Rattle.model.specs.declared.Act.{Act}
use Rattle.model.specs.declared.Act.TheVariants.{Relay, Begin, Advance}
use Rattle.model.specs.declared.Step.{Step}
use Rattle.model.specs.declared.Answer.{Answer}
use Rattle.model.specs.declared.Answer.TheVariants.{Refused, Done, Conducted}
use Rattle.model.specs.Answers.{answer_in}
use Rattle.model.specs.Rack.{Replica, Rack}
use Rattle.model.specs.Tests.{if}
use Rattle.model.specs.TurnedAway.{◌when◌, unless}
use Rattle.model.specs.Rules.{strip_short}
use Rattle.model.specs.Conductor.{for_each, does, hear, hear_steps, round_steps, slot_steps, is_running, running_count, common_slot}
use Rattle.model.specs.Conductor.{level, common_tag, lacks, conduct_refusals, relay_steps, conduct_steps}
use Rattle.model.specs.Scripts.{Played, ended, play, conducting, after_all, accepted_of}
use Rattle.model.proofs.Branches.{told}
use Rattle.model.proofs.Cases.{Unmet, unmet_both, unless_then, unless_map}
use Rattle.model.proofs.Sequences.{each_same, conducted_by, conducts_by}
use Rattle.tables.specs.Layout.{Tables, has_bit}
use Rattle.tables.specs.View.{view}
use Rattle.tables.specs.declared.Lengths.{Lengths}
use Rattle.tables.specs.declared.Memory.{Memory}
use Rattle.tables.specs.declared.MemoryRef.{MemoryRef}
use Rattle.tables.specs.Lent.{held, read, Reads, reads_held}
use Rattle.tables.specs.Checks.{lengths, long, tables_refusals}
use Rattle.tables.specs.Sound.{Sound, sound, own_view}
use Rattle.tables.specs.Calls.{on_tables, tables_barred, conducted}
use Rattle.refusals.specs.Vet.{run_spoiled}
use Rattle.acts.proofs.GateLaws.{turned_away, passed_unmet}
use Rattle.survey.specs.Marked.{Marked}
use Rattle.rounds.specs.Made.{Made, Ready}
use Rattle.conduct.specs.declared.Found.{Found}
use Rattle.conduct.specs.Seen.{Seen}

-- ---- 3 and 2

module _ (N : Numbers) (strip : List ℕ) (t : Tables) where
  abbrev Bars : Result ⊤ Refusal → Type 0
  Bars v = v ≡ unless Err (tables_barred N strip t) (Ok tt)

  pub bar_spoiled : {b : Bool} → b ≡ run_spoiled N t.words → b ≡ true → Bars (Err SpoiledRecord)
  unfolding unless if
  bar_spoiled is h = rw (told is h)

  module _ {b g : Bool} {l : Lengths} (is : b ≡ run_spoiled N t.words) (h : b ≡ false) (measured : l ≡ lengths t) (asked : g ≡ long N l) where
    pub bar_short : g ≡ false → Bars (Err ShortTable)
    unfolding unless if
    bar_short e = rw (told is h, ← measured, ← asked, e)

    pub bar_strip : g ≡ true → length strip < N.slots * N.phases → Bars (Err ShortTable)
    unfolding unless if
    bar_strip e few = rw (told is h, ← measured, ← asked, e, lt-ltb _ _ few)

    pub bar_none : g ≡ true → N.slots * N.phases ≤ length strip → Bars (Ok tt)
    unfolding unless if
    bar_none e enough = rw (told is h, ← measured, ← asked, e, le-ltb _ _ enough)

  -- what is known where none of them is met
  pub passed_sound : Bars (Ok tt) → Sound N t × (strip_short N strip ≡ false)
  unfolding Unmet
  passed_sound passed =
      let (lent, short) = unmet_both (tables_refusals N t) (ShortTable when strip_short N strip ∷ []) (passed_unmet (tables_barred N strip t) (sym passed)) in
      (sound N t lent, short.0)

-- a rack that is read is as level as the memory that it was lent from
pub level_read : (N : Numbers) (s : ℕ) {m : Memory} {r : MemoryRef} {b : Bool} → b ≡ level N (view N (read r)) s → Reads m r
    → b ≡ level N (view N (held m)) s
level_read N s q e = q ∙ ap (λ t. level N (view N t) s) (reads_held e)

-- ---- the steps by masks are those by the rack

module _ (n : ℕ) (a b : ℕ → Bool) (same : (c : ℕ) → c < n → a c ≡ b c) (s : ℕ) where
  all_do : (x : Act) → for_each n a (does x) ≡ for_each n b (does x)
  all_do x = each_same n a b (does x) same

  all_hear : (so p : ℕ) → for_each n a (hear_steps n a s so p) ≡ for_each n b (hear_steps n b s so p)
  all_hear so p =
      ap (for_each n a) (fun_ext (λ c. each_same n _ _ (λ d. does (hear so s p d) c) (λ d l. ap (λ (x : Bool). x && not (eqb d c)) (same d l))))
      ∙ each_same n a b (hear_steps n b s so p) same

  a_round : (so p : ℕ) → round_steps n a s so p ≡ round_steps n b s so p
  a_round so p = ap₂ ◌++◌ (all_hear so p) (all_do Advance)

  pub slot_same : slot_steps n a s ≡ slot_steps n b s
  unfolding slot_steps
  slot_same = ap₂ ◌++◌ (all_do Begin) (ap₂ ◌++◌ (a_round 1 0) (ap₂ ◌++◌ (a_round 2 1) (a_round 3 1)))

module _ (N : Numbers) (strip : List ℕ) (t : Tables) where
  open N use {n}

  abbrev r : Rack
  r = view N t

  abbrev steps_made : Played Tables
  steps_made = play (on_tables N strip) (conducting (relay_steps N r) (conduct_steps N r)) t

  pub by_masks : (found : Found) → Seen N r found
      → play (on_tables N strip) (conducting (for_each n (has_bit found.lacking) (does (Relay found.tag))) (slot_steps n (has_bit found.running) found.slot)) t
      ≡ steps_made
  unfolding relay_steps conduct_steps
  by_masks found seen =
      ap₂ (λ (xs ys : List Step). play (on_tables N strip) (conducting xs ys) t)
      (each_same n _ _ (does (Relay found.tag)) seen.lacking ∙ ap (λ (x : ℕ). for_each n (lacks N r x) (does (Relay x))) seen.tag)
      (slot_same n _ _ seen.running found.slot ∙ ap (slot_steps n (is_running N r)) seen.slot)

  -- they were made
  carried : {xs ys : List Step} {u v : Tables} {j k : ℕ} → Made N strip xs t u j → Made N strip ys u v k
      → ended (Conducted k j) v ≡ play (on_tables N strip) (conducting xs ys) t
  carried {xs} {ys} {u} {v} {j} {k} a b = let w = on_tables N strip in
      (λ i. ended (Conducted ((b.counted ∙ ap (accepted_of w ys) a.left) i) (a.counted i)) ((b.left ∙ ap (after_all w ys) a.left) i))
      ∙ sym (conducted_by w xs ys t)

  -- ---- behind the refusals

  abbrev level_played : Played Tables
  level_played = unless (λ why. ended (Refused why) t) (conduct_refusals N r) steps_made

  -- 3 and 2, and the others
  abbrev barred : Result ⊤ Refusal → Played Tables
  barred (Err why) = ended (Refused why) t
  barred _ = level_played

  by_bar : {v : Result ⊤ Refusal} → Bars N strip t v → barred v ≡ conducted N strip t
  unfolding conducted
  by_bar asked = ap barred asked ∙ unless_map barred Err (Ok tt) (tables_barred N strip t) ∙ sym (unless_then _ _ (tables_barred N strip t) _)
      ∙ sym (conducts_by (on_tables N strip) N t)

  abbrev settled : Answer → Played Tables
  settled (Refused why) = ended (Refused why) t
  settled _ = steps_made

  by_level : {a : Answer} → a ≡ unless Refused (conduct_refusals N r) Done → settled a ≡ level_played
  by_level q = ap settled q ∙ unless_map settled Refused Done (conduct_refusals N r)

  -- one law for each way out
  module _ {T : Type 0} (good : T → Answer) (o : Result T Refusal) {why : Refusal} (away : IsErrAnd o (λ y. y ≡ why)) where
    pub bar_turns : Bars N strip t (Err why) → ended (answer_in good o) t ≡ conducted N strip t
    bar_turns asked = ap (λ (o : Result T Refusal). ended (answer_in good o) t) (turned_away away) ∙ by_bar asked

    pub level_turns : Bars N strip t (Ok tt) → Refused why ≡ unless Refused (conduct_refusals N r) Done → ended (answer_in good o) t ≡ conducted N strip t
    level_turns passed q = ap (λ (o : Result T Refusal). ended (answer_in good o) t) (turned_away away) ∙ by_level q ∙ by_bar passed

  pub level_passes : {found : Found} → Bars N strip t (Ok tt) → Done ≡ unless Refused (conduct_refusals N r) Done → Seen N r found
      → {u v : Tables} {j k : ℕ} → Made N strip (for_each n (has_bit found.lacking) (does (Relay found.tag))) t u j
      → Made N strip (slot_steps n (has_bit found.running) found.slot) u v k → ended (Conducted k j) v ≡ conducted N strip t
  level_passes {found} passed q seen a b = carried a b ∙ by_masks found seen ∙ by_level q ∙ by_bar passed

-- ---- 23, 22, 11, 12

module _ (N : Numbers) (r : Rack) where
  abbrev Answers : Answer → Type 0
  Answers a = a ≡ unless Refused (conduct_refusals N r) Done

  -- one law for each way out, in the order of the tests
  module _ {found : ℕ} (counted : found ≡ running_count N r) where
    pub too_few : found < N.n - N.f → Answers (Refused TooFewRunning)
    unfolding unless if
    too_few h = rw (← counted, lt-ltb _ _ h)

    module _ (enough : N.n - N.f ≤ found) {slot : ℕ} (at : slot ≡ common_slot N r) {b : Bool} (asked : b ≡ level N r slot) where
      pub not_level : b ≡ false → Answers (Refused NotLevel)
      unfolding unless if
      not_level e = rw (← counted, le-ltb _ _ enough, ← at, ← asked, e)

      module _ (e : b ≡ true) where
        pub log_full : N.slots ≤ slot → Answers (Refused LogFull)
        unfolding unless if
        log_full h = rw (← counted, le-ltb _ _ enough, ← at, ← asked, e, le-leb _ _ h)

        module _ (below : slot < N.slots) {tag : ℕ} (is : tag ≡ common_tag N r) where
          pub none_pending : tag ≡ 0 → Answers (Refused NothingPending)
          unfolding unless if
          none_pending q = rw (← counted, le-ltb _ _ enough, ← at, ← asked, e, lt-leb _ _ below, ← is, eq-eqb _ _ q)

          pub none_met : tag ≢ 0 → Answers Done
          unfolding unless if
          none_met ne = rw (← counted, le-ltb _ _ enough, ← at, ← asked, e, lt-leb _ _ below, ← is, ne_eqb _ _ ne)

-- the running ones of a mask meet no first refusal
pub ready : (N : Numbers) (t : Tables) (mask : ℕ) → Sound N t → Marked N.n (is_running N (view N t)) mask → Ready N mask t
ready N t mask fine on = record {
  fine = fine;
  running = λ c there bit. eqb-true _ 0 (not-false _ (not-true _ (ap (λ (k : Replica). not k.crashed) (sym (own_view N t there)) ∙ sym (on c there) ∙ bit)));
}
