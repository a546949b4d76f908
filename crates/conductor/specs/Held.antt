-- In a run a tag that is held is known, and is not 0.
use Rattle.std.specs.Prelude.{ℕ, Bool, List, [], ◌∷◌, ◌++◌, ◌≢◌, ◌≡◌, eqb}
use Rattle.std.proofs.Math.Bool.{true}
use Rattle.std.proofs.Math.Path.{refl}
use Rattle.std.proofs.Common.{subst, eq-eqb}
use Rattle.tables.specs.Types.{Numbers, Effect, Refuse, Hold, Send, Close, Seek, Receive, Halt, Act}
use Rattle.model.specs.Tests.{set, listed}
use Rattle.model.specs.Rack.{Replica, Rack, start, adding, apply}
use Rattle.model.specs.Rules.{decide}
use Rattle.model.specs.History.{beginning, Lent, take_step, after}
use Rattle.model.proofs.Cases.{clash, if-ind, set-ind, some_here, some_there, adding_keeps}
use Rattle.safety.specs.Comes.{by_submit, by_relay, Comes, ruled}
use Rattle.safety.proofs.Comes.{comes}
use Rattle.safety.specs.Runs.{run_keeps}

abbrev Known : List ℕ → ℕ → Type 0
Known tags x = (x ≢ 0) × (listed x tags ≡ true)

abbrev pub HeldKnown : Rack → Type 0
HeldKnown r = (c x : ℕ) → (r.at c).held x ≡ true → Known r.known x

last_listed : (xs : List ℕ) (x : ℕ) → listed x (xs ++ (x ∷ [])) ≡ true
last_listed [] x = some_here (eqb x) x [] (eq-eqb x x refl)
last_listed (y ∷ xs) x = some_there (eqb x) y _ (last_listed xs x)

adding_there : (x : ℕ) (xs : List ℕ) → listed x (adding x xs) ≡ true
unfolding adding
adding_there x xs = if-ind (λ (l : List ℕ). listed x l ≡ true) _ (λ e. e) (λ _. last_listed xs x)

-- an effect keeps it, if it is not that 0 is held
module _ (r : Rack) (c : ℕ) (all : HeldKnown r) where
  same_held : (k : Replica) → k.held ≡ (r.at c).held → (d x : ℕ) → (set c k r.at d).held x ≡ true → Known r.known x
  same_held k e d x = set-ind (λ (k : Replica). k.held x ≡ true → Known r.known x) c r.at d (λ _ h. all c x (rw e at h)) (λ _. all d x)

  held_known : (e : Effect) → ((x : ℕ) → e ≡ Hold x → x ≢ 0) → HeldKnown (apply c e r)
  unfolding apply
  held_known (Refuse why) some = all
  held_known (Hold x) some = λ d y. set-ind (λ (k : Replica). k.held y ≡ true → Known (adding x r.known) y) c r.at d
      (λ _. set-ind (λ (b : Bool). b ≡ true → Known (adding x r.known) y) x (r.at c).held y
      (λ e _. rw e (some x refl, adding_there x r.known)) (λ _ h. more y (all c y h)))
      (λ _ h. more y (all d y h))
    where
      more : (y : ℕ) → Known r.known y → Known (adding x r.known) y
      more y (ne, l) = (ne, adding_keeps x r.known y l)
  held_known (Send so p w) some = same_held _ refl
  held_known (Close x own) some = same_held _ refl
  held_known Seek some = same_held _ refl
  held_known (Receive so s p d w) some = same_held _ refl
  held_known Halt some = same_held _ refl

not_blank : {N : Numbers} {r : Rack} {c : ℕ} {a : Act} {x : ℕ} → Comes N r c a (Hold x) → x ≢ 0
not_blank (ruled acts (by_submit ne b d)) = ne
not_blank (ruled acts (by_relay ne b d)) = ne

pub run_held_known : (N : Numbers) (calls : List Lent) → HeldKnown (after N calls).rack
unfolding start take_step
run_held_known N calls = run_keeps N (λ h. HeldKnown h.rack) (λ strip a h all. let c = a.who.0 in
    held_known h.rack c all (decide N strip a h.rack) (λ x e. not_blank (subst (Comes N h.rack c a.act) e (comes N h.rack strip a))))
    calls beginning (λ c x e. clash e)
