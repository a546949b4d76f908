-- The invariant of a history: that of its rack, and that its words and its rack go together. A known tag was submitted, a
-- proposal on the board was proposed by an accepted begin, and a completed vote round left its votes on the board.
use Rattle.std.specs.Prelude.{ℕ, ◌+◌, ◌≤◌, true, not, List, ◌≡◌, eqb}
use Rattle.std.proofs.Math.Logic.{⊎_elim}
use Rattle.std.proofs.Common.{eqb-true}
use Rattle.std.proofs.lemmas.Bool.{not-true}
use Rattle.safety.specs.Types.{Numbers, Vote, Outcome}
use Rattle.safety.specs.Types.{Effect, Step}
use Rattle.model.specs.Rack.{same_round, is_sent, Rack}
use Rattle.model.specs.Rules.{notice, decide}
use Rattle.model.specs.Scripts.{accepted}
use Rattle.model.specs.History.{Taken, History, take_step, is_advance, completes}
use Rattle.model.proofs.Cases.{and_true, same_round_true}
use Rattle.model.proofs.Cases.{same_outcome_true}
use Rattle.safety.specs.Board.{Ended}
use Rattle.safety.specs.Grow.{Grows, ended_grows}
use Rattle.safety.specs.Comes.{Comes}
use Rattle.safety.proofs.Comes.{comes}
use Rattle.safety.specs.Invariant.{Invariant}
use Rattle.safety.specs.Kept.{board_grows}
use Rattle.safety.proofs.Kept.{kept}
use Rattle.safety.proofs.Allowed.{ended_with, decide_allowed}
use Rattle.safety.specs.Histories.{HistoryInvariant, enough_votes, new_known, new_proposal, taken_before, taken_either, taken_now}

-- ---- what a step brings

module _ (N : Numbers) (r : Rack) where
  -- a step that came to an effect, as it is taken
  abbrev taking : Step → Effect → Taken
  taking a e = record { step = a; was = r.at a.who.0; effect = e }

module _ (N : Numbers) (fits : N.f + N.f + 1 ≤ N.n) where
  new_round : (r : Rack) → Invariant N r → (a : Step) (e : Effect) → Comes N r a.who.0 a.act e → accepted e ≡ true → (c s p : ℕ) (o : Outcome)
      → completes N c s p o (taking N r a e) ≡ true → Ended N r.sent s p o
  new_round r inv a e by g c s p o h =
      let k = r.at a.who.0 in
      let (_, h₀) = and_true (eqb a.who.0 c) _ h in
      let (adv, h₁) = and_true (is_advance a.act) _ h₀ in
      let (none, h₂) = and_true (not (is_sent (notice N k))) _ h₁ in
      let (was, h₃) = and_true (same_round k.round Vote) _ h₂ in
      let (slot, h₄) = and_true (eqb k.closed s) _ h₃ in
      let (phase, result) = and_true (eqb k.phase p) _ h₄ in
      let enough = enough_votes N r a.who.0 by g adv (not-true _ none) (same_round_true _ _ was) in
      let ended = ended_with N fits r inv a.who.0 enough (same_outcome_true o _ result) in
      rw (eqb-true k.closed s slot, eqb-true k.phase p phase) at ended

  pub step_grows : (strip : List ℕ) (a : Step) (h : History) → Invariant N h.rack → Grows h.rack.sent (take_step N strip a h).rack.sent
  unfolding take_step
  step_grows strip a h inv = board_grows N h.rack inv a.who.0 (decide N strip a h.rack) (decide_allowed N fits h.rack inv strip a)

  pub step_history : (strip : List ℕ) (a : Step) (h : History) → HistoryInvariant N h → HistoryInvariant N (take_step N strip a h)
  unfolding take_step
  step_history strip a h old =
      let r = h.rack in
      let inv = old.of_rack in
      let e = decide N strip a r in
      let by = comes N r strip a in
      record {
        of_rack = kept N r inv a.who.0 e (decide_allowed N fits r inv strip a);
        known_submitted = λ x q. ⊎_elim (λ z. taken_now _ _ _ _ z.0 z.1) (λ z. taken_before _ _ _ _ (old.known_submitted x z))
            (new_known N r a.who.0 a.act e by x q);
        sent_proposed = λ s d x q.
            ⊎_elim (λ z. taken_now _ _ _ _ z.0 z.1) (λ z. taken_before _ _ _ _ (old.sent_proposed s d x z)) (new_proposal N r a e by s d x q);
        completed_ended = λ c s p o q. ended_grows (step_grows strip a h inv) N s p o
            (⊎_elim (λ z. new_round r inv a e by z.0 c s p o z.1) (old.completed_ended c s p o) (taken_either _ _ _ _ q));
      }
