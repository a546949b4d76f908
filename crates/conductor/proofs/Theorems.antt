-- The theorem that specs/Claims states, of the history.
use Rattle.std.specs.Prelude.{ℕ, ◌+◌, ◌-◌, ◌*◌, ◌≤◌, ◌<◌, Bool, true, false, not, List, ◌≡◌, refl}
use Rattle.std.proofs.Common.{arith, ⊎_elim, sym, ◌∙◌, ap, ap₂}
use Rattle.std.proofs.lemmas.Bool.{not-true}
use Rattle.tables.specs.Types.{Numbers, Sort, Proposals, States, Votes, Step, Relay, Begin, Advance, Conduct, Conducted}
use Rattle.model.specs.Tests.{count}
use Rattle.model.specs.Rack.{sort_number, Rack}
use Rattle.model.specs.Conductor.{does, is_running, running_count, common_slot, common_tag, pending_somewhere}
use Rattle.model.specs.Conductor.{lacks, round_steps, slot_steps, relay_steps, conduct_steps}
use Rattle.model.specs.TurnedAway.{unless}
use Rattle.model.specs.Scripts.{Script, Played, play, after_all, accepted_of}
use Rattle.model.specs.History.{History, Lent, follow, after}
use Rattle.model.proofs.Cases.{clash, either, and_true, and_both, if-ind, Unmet, set_same}
use Rattle.model.proofs.Counting.{any_here}
use Rattle.model.proofs.FirstTag.{first_of_leads}
use Rattle.model.proofs.Sequences.{conducted_by}
use Rattle.safety.proofs.Theorems.{invariant}
use Rattle.conductor.specs.Claims.{Conducts}
use Rattle.conductor.specs.Counts.{count_others}
use Rattle.conductor.specs.Turns.{Card, card, Claim, Those, here, Takes, takes_then, sweep}
use Rattle.conductor.specs.Rounds.{phase_of, hears_all, Waiting, InRound, Closed}
use Rattle.conductor.specs.Level.{Level, is_level, holder}
use Rattle.conductor.proofs.Level.{waits_holding, relay_turn}
use Rattle.conductor.specs.Steps.{begin_turn}
use Rattle.conductor.proofs.Steps.{hear_turn, exchange_turn, state_turn, vote_turn}
use Rattle.conductor.specs.Held.{HeldKnown, run_held_known}
use Rattle.conductor.specs.Theorems.{relays_to_others, square}

module _ (N : Numbers) (strip : List ℕ) (h : History) (level : Level N h.rack strip) where
  open N use {n}

  abbrev r : Rack
  r = h.rack

  abbrev running : ℕ → Bool
  running = is_running N r

  abbrev L : ℕ
  L = running_count N r

  abbrev s : ℕ
  s = common_slot N r

  abbrev x : ℕ
  x = common_tag N r

  -- ---- the relays

  relayed : Takes N strip (Those (lacks N r x) n) (Waiting N r) (relay_steps N r) (count n (lacks N r x) * 1) h
  unfolding relay_steps
  relayed = sweep N strip (lacks N r x) (λ c k. k ≡ card r c) (Waiting N r) (does (Relay x)) 1 h (λ c l e h' known _ now.
      let (on, without) = and_true (running c) _ e in
      relay_turn N r strip level c l on (not-true _ without) h' known (ap (λ (k : Card). k.own) now))
      (λ d t. refl)

  -- after them
  abbrev h₁ : History
  h₁ = after_all (here N strip) (relay_steps N r) h

  all_wait : (c : ℕ) → Those running n c → Waiting N r c (card h₁.rack c)
  all_wait c (l, on) = either ((r.at c).held x)
      (λ has. waits_holding N r strip level c l on has h₁.rack
      (ap (λ (k : Card). k.own) (relayed.moved.others c (λ t. clash (sym (ap not has) ∙ (and_true (running c) _ t.1).1)))))
      (λ lacking. relayed.moved.reached c (l, and_both (running c) _ on (ap not lacking)))

  -- ---- the rounds

  abbrev All_take : Claim → List Step → ℕ → History → Type 0
  All_take = Takes N strip (Those running n)

  -- a round's hears and its advances
  abbrev round_count : ℕ
  round_count = L * (L - 1) + L * 1

  -- all hear each other, and then all advance
  round_takes : (so : Sort) (Q : Claim)
      → ((c : ℕ) → c < n → (h' : History) → InRound N r so n c (card h'.rack c) → Takes N strip (λ d. d ≡ c) Q (does Advance c) 1 h')
      → (h' : History) → ((d : ℕ) → Those running n d → InRound N r so 0 d (card h'.rack d))
      → All_take Q (round_steps n running (common_slot N r) (sort_number so) (phase_of so)) round_count h'
  round_takes so Q advance h' all =
      let heard = sweep N strip running (InRound N r so 0) (InRound N r so n) (hears_all N r so) (L - 1) h' (λ c l on h'' _ side now.
      hear_turn N r strip level so c l on h'' (λ d l' on'. ⊎_elim (λ z. z.spoken) (λ z. z.spoken) (side d (l', on'))) now) all in
      takes_then N strip heard (sweep N strip running (InRound N r so n) Q (does Advance) 1 _ (λ c l _ h'' _ _ now. advance c l h'' now) heard.moved.reached)

  -- they begin, and go through the three rounds
  all_close : All_take (Closed N r) (conduct_steps N r) (L * 1 + (round_count + (round_count + round_count))) h₁
  unfolding conduct_steps slot_steps
  all_close =
      let a = sweep N strip running (Waiting N r) (InRound N r Proposals 0) (does Begin) 1 h₁
      (λ c l _ h' known _ now. begin_turn N r strip level c l h' (known ∙ relayed.moved.known) now) all_wait in
      let b = round_takes Proposals (InRound N r States 0) (exchange_turn N r strip level) _ a.moved.reached in
      let c = round_takes States (InRound N r Votes 0) (state_turn N r strip level) _ b.moved.reached in
      takes_then N strip a (takes_then N strip b (takes_then N strip c (round_takes Votes (Closed N r) (vote_turn N r strip level) _ c.moved.reached)))

  -- ---- what they leave

  -- in the end
  abbrev h₂ : History
  h₂ = after_all (here N strip) (conduct_steps N r) h₁

  end : (c : ℕ) → c < n → running c ≡ true → Closed N r c (card h₂.rack c)
  end c l on = all_close.moved.reached c (l, on)

  aside : (c : ℕ) → running c ≡ false → card h₂.rack c ≡ card r c
  aside c off = all_close.moved.others c (λ t. clash (sym off ∙ t.1)) ∙ relayed.moved.others c (λ t. clash (sym off ∙ (and_true (running c) _ t.1).0))

  conducts : HeldKnown r
      → Conducts N r h₂.rack (Conducted (accepted_of (here N strip) (conduct_steps N r) h₁) (accepted_of (here N strip) (relay_steps N r) h))
  conducts held =
      let (c, there, e) = holder N r strip level in
      let (on, p) = and_true (running c) _ e in
      record {
        tag_pending = (c, there, on, p);
        tag_first = λ d y l on q. let (some, known) = held d y (and_true ((r.at d).held y) _ q).0 in
            (first_of_leads (pending_somewhere N r) r.known y known (any_here n _ d l (and_both (running d) _ on q)) some).1;
        answered = ap₂ Conducted (omega (arith, all_close.counted, square N strip h level)) (omega (arith, relayed.counted));
        few_relays = omega (arith, count_others n running c there on, relays_to_others N strip h level c (and_true ((r.at c).held x) _ p).0);
        slot_before = λ c l on. (level.even c l on).1;
        slot_after = λ c l on. omega (arith, (end c l on).slot);
        tag_logged = λ c l on. ap (λ (g : ℕ → ℕ). g s) (end c l on).entries ∙ set_same s x (r.at c).entry;
        log_after = λ c l on. (end c l on).entries;
        idle_after = λ c l on. (end c l on).round;
        running_after = λ c l on. ap not (end c l on).running;
        crashed_alone = λ c off. ap (λ (k : Card). k.own) (aside c off);
        crashed_silent = λ c off so s p. ap (λ (k : Card). k.said so s p) (aside c off);
        known_alone = all_close.moved.known ∙ relayed.moved.known;
      }

-- "In a run": after any list of calls, wherever the conductor is not turned away. A refusal's number is not 0, so none of its five
-- is met.
pub conductor : (N : Numbers) → N.f + N.f + 1 ≤ N.n → 1 ≤ N.phases → (calls : List Lent) (strip : List ℕ)
    → let h = after N calls in
    let o = follow N (record { strip = strip; call = Conduct }) h in
    o.number ≡ 0 → Conducts N h.rack o.state.rack o.answer
unfolding play unless Unmet
conductor N fits a_phase calls strip =
    if-ind Told _ (λ _ e. absurd (omega arith)) (λ short.
    if-ind Plays _ (λ _ e. absurd (omega arith)) (λ few.
    if-ind Plays _ (λ _ e. absurd (omega arith)) (λ bumpy.
    if-ind Plays _ (λ _ e. absurd (omega arith)) (λ full.
    if-ind Plays _ (λ _ e. absurd (omega arith)) (λ none _.
    let level = is_level N r strip fits a_phase (invariant N fits calls) (short, tt) (few, (bumpy, (full, (none, tt)))) in
    rw (conducted_by (here N strip) (relay_steps N r) (conduct_steps N r) h) (conducts N strip h level (run_held_known N calls)))))))
  where
    h : History
    h = after N calls

    r : Rack
    r = h.rack

    Told : Played History → Type 0
    Told o = o.number ≡ 0 → Conducts N r o.state.rack o.answer

    Plays : Script → Type 0
    Plays x = Told (play (here N strip) x h)
