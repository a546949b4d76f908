-- An advance behind the first refusals: what its rule asks and comes to, and the effects that it may have.
use Prim.Native.Nat.{ℕ, ◌*◌, ◌≤◌, ◌<◌}
use mathlib.Core.Bool.{true, false}
use mathlib.Core.List.{List}
use mathlib.Core.Path.{◌≡◌, refl, ◌∙◌}
use Rattle.model.specs.declared.Numbers.{Numbers}
use Rattle.model.specs.declared.ReplicaId.{ReplicaId}
use Rattle.model.specs.declared.Round.{Round}
use Rattle.model.specs.declared.Effect.{Effect}
use Rattle.model.specs.declared.Act.TheVariants.{Advance}
use Rattle.tables.specs.declared.Record.{Record}
use Rattle.model.specs.Coins.{coin}
use Rattle.model.specs.Rack.{round_in, Replica}
use Rattle.model.specs.TurnedAway.{Rule, settle}
use Rattle.model.specs.Rules.{notice, advance_rule, heed, own_rule}
use Rattle.model.specs.Scripts.{advance}
use Rattle.model.proofs.Cases.{unless_ind, unmet_both}
use Rattle.safety.specs.Comes.{ByRule, by_notice, by_exchange, by_state, by_outcome_0, by_outcome_1, by_seek, by_next_phase}
use Rattle.safety.specs.Comes.{by_find}
use Rattle.safety.proofs.Comes.{past}
use Rattle.tables.specs.Layout.{Tables, record_at}
use Rattle.tables.specs.View.{inbox_in, replica_at, view}
use Rattle.tables.specs.Checks.{misplaced}
use Rattle.tables.specs.Calls.{lent_refusals, judge}
use Rattle.tables.specs.Sound.{stands}
use Rattle.messages.specs.Reach.{Reach}
use Rattle.tallies.specs.Heard.{heard_by}
use Rattle.advance.specs.Noticed.{noticed}
use Rattle.effects.specs.Doable.{by_advance}
use Rattle.acts.specs.Admitted.{Admitted}
use Rattle.acts.proofs.RuleLaws.{reach, own_stands}
use Rattle.steps.proofs.AlikeLaws.{advance_alike}

-- it goes by the replica's record, as it was loaded
module _ {N : Numbers} {c d st : ℕ} {t : Tables} (l : Admitted N c d st t) {k : Record} {o : Round} (loaded : k ≡ record_at t.words c)
    (round : o ≡ round_in k.round) where
  -- the rule of a record and round, as the code reads the memories
  abbrev heeding : List ℕ → Record → Round → Rule
  heeding strip j a = heed (noticed N c j.slot t)
      (advance_rule N (coin N.phases strip j.slot j.phase) (heard_by N c j.slot j.phase t) a)

  pub advance_asks : (c < N.n) × (misplaced N o k.slot k.phase ≡ false) × Reach N t × (N.slots * N.phases ≤ st)
  advance_asks = (l.who, own_stands l loaded round, reach l, l.coins)

  pub advances : (strip : List ℕ) {r : Effect}
      → r ≡ settle (heeding strip k o) → r ≡ settle (own_rule N strip Advance (view N t) (replica_at N t c))
  unfolding own_rule
  advances strip q =
      let alike = advance_alike N (record_at t.words c) _ _ (inbox_in N t.words t.orders t.ballots c) _ _ (stands N l.fine l.who) in
      q ∙ (λ i. settle (heeding strip k (round i))) ∙ (λ i. settle (heeding strip (loaded i) (round_in (loaded i).round)))
      ∙ (λ i. settle (heed (notice N (replica_at N t c)) (alike i)))

-- what it comes to is one of its effects
pub advance_by : (N : Numbers) (strip : List ℕ) (c : ReplicaId) (t : Tables) → by_advance (judge N strip (advance c) t) ≡ true
unfolding judge
advance_by N strip c t = unless_ind (λ (e : Effect). by_advance e ≡ true) _ (λ why. refl) (λ u.
    let (_, rest) = unmet_both (lent_refusals N (advance c) t) _ u in
    let (_, r) = past N (view N t) strip (advance c) rest in
    by r)
  where
    by : {k : Replica} {e : Effect} → ByRule N (view N t) k Advance e → by_advance e ≡ true
    by (by_notice heard) = refl
    by (by_exchange was enough) = refl
    by (by_state was enough) = refl
    by (by_outcome_0 v o) = refl
    by (by_outcome_1 v o some) = refl
    by (by_seek v o none) = refl
    by (by_next_phase flip v o more) = refl
    by (by_find was some) = refl
