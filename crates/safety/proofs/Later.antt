-- What one step keeps of the history before it, and that this adds up from step to step.
use Rattle.std.specs.Prelude.{ℕ, true, List, ◌≡◌}
use Rattle.std.proofs.Common.{ap}
use Rattle.std.proofs.Math.Decide.{ℕ_discrete}
use Rattle.std.proofs.Math.Path.{refl}
use Rattle.safety.specs.Types.{Numbers, Sort, Step}
use Rattle.model.specs.Rack.{Rack, apply}
use Rattle.model.specs.Rules.{decide}
use Rattle.model.specs.History.{History, take_step}
use Rattle.safety.specs.Claims.{Keeps}
use Rattle.safety.specs.Grow.{Grows, stays}
use Rattle.safety.proofs.Comes.{comes}
use Rattle.safety.specs.Later.{crashed_still, log_stays, old_silent, other_silent, other_stays}

pub step_keeps : (N : Numbers) (strip : List ℕ) (a : Step) (h : History) → Grows h.rack.sent (take_step N strip a h).rack.sent
    → Keeps h (take_step N strip a h)
unfolding take_step
step_keeps N strip a h grows = record {
  sent_stays = λ so s p d i. stays grows so s p d i refl;
  closed_stays = λ d. (log_stays r a.who.0 d (decide N strip a r)).closed_grows;
  entry_stays = λ d. (log_stays r a.who.0 d (decide N strip a r)).entries_stay;
  closed_silent = λ d s l so p. old_silent r a.who.0 d (decide N strip a r) so s p l;
  crashed_stays = λ d i. same_record d i (ℕ_discrete d a.who.0);
  crashed_silent = λ d i. same_board d i (ℕ_discrete d a.who.0);
}
  where
    r : Rack
    r = h.rack

    next : Rack
    next = apply a.who.0 (decide N strip a r) r

    still : (d : ℕ) → (r.at d).crashed ≡ true → d ≡ a.who.0 → next ≡ r
    still d i e = crashed_still r a.who.0 (comes N r strip a) (rw e at i)

    same_record : (d : ℕ) → (r.at d).crashed ≡ true → Dec (d ≡ a.who.0) → next.at d ≡ r.at d
    same_record d i (yes e) = ap (λ (x : Rack). x.at d) (still d i e)
    same_record d i (no ne) = other_stays r a.who.0 d ne _

    same_board : (d : ℕ) → (r.at d).crashed ≡ true → Dec (d ≡ a.who.0) → (so : Sort) (s p : ℕ) → next.sent so s p d ≡ r.sent so s p d
    same_board d i (yes e) so s p = ap (λ (x : Rack). x.sent so s p d) (still d i e)
    same_board d i (no ne) so s p = other_silent r a.who.0 d ne _ so s p
