-- Who is running, replica by replica.
use Prim.Native.Nat.{ℕ, ◌+◌, ◌≤◌, ◌<◌}
use native.Mathlib.Omega.{arith}
use native.Mathlib.Numerals.{add-one}
use mathlib.Core.List.{List, []}
use mathlib.Core.Path.{◌≡◌, refl, sym, ◌∙◌, ap, subst}
use Rattle.model.specs.declared.Numbers.{Numbers}
use Rattle.model.specs.Tests.{if, bit, count}
use Rattle.model.specs.Rack.{Rack}
use Rattle.model.specs.Conductor.{is_running, slot_among}
use Rattle.model.proofs.Branches.{if-true, if-false}
use Rattle.model.proofs.Cases.{if-ind}
use Rattle.model.proofs.Counting.{count_none, count_more, count_low}
use Rattle.tables.specs.declared.Record.{Record}
use Rattle.tables.specs.Layout.{record_at}
use Rattle.survey.specs.declared.running.Running.{Running}
use Rattle.survey.specs.Standing.{runs, joined}
use Rattle.survey.proofs.MarkLaws.{Marks, marks_none, marks_with, marks_without}
use Rattle.survey.proofs.SeenLaws.{seen, runs_seen, slot_seen}

module _ (N : Numbers) (r : Rack) where
  -- what was found among the first k
  pub record Among (k : ℕ) (f : Running) : Type 0 where
    pub mask : Marks (is_running N r) k f.mask
    pub count : f.count ≡ count k (is_running N r)
    pub slot : f.slot ≡ slot_among N r k

  among_none : Among 0 (record { mask = 0; count = 0; slot = 0 })
  unfolding slot_among
  among_none = record { mask = marks_none _; count = sym (count_none _); slot = refl }

  among_more : {c : ℕ} {f : Running} (k : Record) → runs k ≡ is_running N r c → k.slot ≡ (r.at c).closed → Among c f
      → Among (c + 1) (if (runs k) (joined f c k) f)
  unfolding slot_among
  among_more {c} {f} k is at a = if-ind (Among (c + 1)) (runs k)
      (λ t. let b = ap bit (sym is ∙ t) in record {
        mask = marks_with _ a.mask (sym is ∙ t);
        count = let e = a.count in omega (arith, count_more c (is_running N r));
        slot = rw (add-one c) (at ∙ sym (if-true _ _ (sym is ∙ t)));
      })
      (λ t. let b = ap bit (sym is ∙ t) in record {
        mask = marks_without _ a.mask (sym is ∙ t);
        count = let e = a.count in omega (arith, count_more c (is_running N r));
        slot = rw (add-one c) (a.slot ∙ sym (if-false _ _ (sym is ∙ t)));
      })

-- whatever the other numbers and memories are
module _ (ws : List ℕ) (n : ℕ) where
  abbrev pub Found : ℕ → Running → Type 0
  Found k f = (N : Numbers) → N.n ≡ n → (os bs : List ℕ) → Among N (seen N ws os bs) k f

  pub found_none : Found 0 (record { mask = 0; count = 0; slot = 0 })
  found_none N e os bs = among_none N _

  -- no more are found than were looked at
  pub found_few : (N : Numbers) {k : ℕ} {f : Running} → N.n ≡ n → Found k f → f.count ≤ k
  found_few N {k} e a = omega (arith, (a N e [] []).count, count_low k (is_running N (seen N ws [] [])))

  pub found_more : {c : ℕ} {f g : Running} {k : Record} → c < n → k ≡ record_at ws c → Found c f → g ≡ if (runs k) (joined f c k) f → Found (c + 1) g
  found_more {c} {f} {g} {k} there loaded a q N e os bs =
      let low : c < N.n = omega arith in
      let is = ap runs loaded ∙ runs_seen N ws os bs low in
      let at = ap (λ (k : Record). k.slot) loaded ∙ slot_seen N ws os bs low in
      subst (Among N _ (c + 1)) (sym q) (among_more N _ k is at (a N e os bs))
