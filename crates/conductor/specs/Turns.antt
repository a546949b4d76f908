-- Lists of steps in which each of some replicas in turn makes steps of its own: what comes of them, and what they leave alone.
-- Nothing here speaks of a round or of the conductor.
use Prim.Native.Nat.{ℕ, zero, suc, ◌+◌, ◌*◌, ◌≤◌, ◌<◌}
use Rattle.std.proofs.Common.{arith, le_refl, true≢false, inl, inr, sym, ◌∙◌, subst}
use Rattle.std.proofs.Math.Decide.{dec_lt, ℕ_discrete}
use Rattle.std.specs.Prelude.{Bool, List, [], ◌∷◌, ◌++◌, ◌⊎◌, ◌≡◌}
use Rattle.std.proofs.Math.Bool.{true, false}
use Rattle.std.proofs.Math.Path.{refl, ap}
use Rattle.tables.specs.Types.{Numbers, Sort, Word, Effect, Refuse, Act, Step}
use Rattle.model.specs.Tests.{bit, count}
use Rattle.model.specs.Rack.{Replica, Rack, apply}
use Rattle.model.specs.TurnedAway.{Rule, settle}
use Rattle.model.specs.Rules.{own_rule, from_nobody, decide}
use Rattle.model.specs.Conductor.{for_each, numbered}
use Rattle.model.specs.Scripts.{Stage, accepted, after_all, accepted_of}
use Rattle.model.specs.History.{History, take_step, on_history}
use Rattle.model.proofs.Cases.{Unmet, none_met}
use Rattle.model.proofs.Sequences.{after_then, accepted_then, after_more, after_past, accepted_more, accepted_past, accepted_one}
use Rattle.safety.specs.Claims.{LongStrip}
use Rattle.safety.specs.Comes.{Acts}
use Rattle.safety.specs.Onward.{through}
use Rattle.safety.specs.Later.{other_stays, other_silent}

-- ---- number by number

-- Steps of each number below n that passes a test: its own steps, of which m are accepted, take what holds before its turn to
-- what holds after it; a number that fails is passed over.
module _ {S : Type 0} (w : Stage S) (n : ℕ) (ok : ℕ → Bool) (steps : ℕ → List Step) (m : ℕ) (At : ℕ → S → Type 0)
    (makes : (k : ℕ) (s : S) → k < n → ok k ≡ true → At k s → At (suc k) (after_all w (steps k) s) × (accepted_of w (steps k) s ≡ m))
    (passed : (k : ℕ) (s : S) → k < n → ok k ≡ false → At k s → At (suc k) s) where
  abbrev Came : ℕ → S → Type 0
  Came k s = At k (after_all w (for_each k ok steps) s) × (accepted_of w (for_each k ok steps) s ≡ count k ok * m)

  pub each : (k : ℕ) → k ≤ n → (s : S) → At 0 s → Came k s
  unfolding for_each count after_all accepted_of
  each zero l s now = (now, omega arith)
  each (suc k) l s now = go (ok k) refl (each k (omega arith) s now)
    where
      go : (b : Bool) → ok k ≡ b → Came k s → Came (suc k) s
      go true e (now, counted) = let (next, one) = makes k _ l e now in
          (rw (after_more w ok steps k s e) next, omega (arith, accepted_more w ok steps k s e, ap (λ (b : Bool). (bit b + count k ok) * m) e))
      go false e (now, counted) =
          (rw (after_past w ok steps k s e) (passed k _ l e now), omega (arith, accepted_past w ok steps k s e, ap (λ (b : Bool). (bit b + count k ok) * m) e))

-- ---- one replica of a rack

-- its record, and what it has sent
pub record Card : Type 0 where
  pub own : Replica
  pub said : Sort → ℕ → ℕ → Word

abbrev pub card : Rack → ℕ → Card
card r d = record { own = r.at d; said = λ so s p. r.sent so s p d }

-- something that may hold of a replica, by its number
abbrev pub Claim : Type 1
Claim = ℕ → Card → Type 0

-- those below k that pass a test
abbrev pub Those : (ℕ → Bool) → ℕ → ℕ → Type 0
Those ok k d = (d < k) × (ok d ≡ true)

-- something holds of some replicas now, and all others are as they were
pub record Moved (who : ℕ → Type 0) (Q : Claim) (r r' : Rack) : Type 0 where
  pub reached : (d : ℕ) → who d → Q d (card r' d)
  pub others : (d : ℕ) → (who d → ⊥) → card r' d ≡ card r d
  pub known : r'.known ≡ r.known

pub moved_then : {who : ℕ → Type 0} {P Q : Claim} {r r' r'' : Rack} → Moved who P r r' → Moved who Q r' r'' → Moved who Q r r''
moved_then a b = record { reached = b.reached; others = λ d not-it. b.others d not-it ∙ a.others d not-it; known = b.known ∙ a.known }

module _ (N : Numbers) (strip : List ℕ) where
  open N use {n}

  abbrev pub here : Stage History
  here = on_history N strip

  -- some steps bring that about, and m of them are accepted
  pub record Takes (who : ℕ → Type 0) (Q : Claim) (steps : List Step) (m : ℕ) (h : History) : Type 0 where
    pub moved : Moved who Q h.rack (after_all here steps h).rack
    pub counted : accepted_of here steps h ≡ m

  pub takes_then : {who : ℕ → Type 0} {P Q : Claim} {xs ys : List Step} {m k : ℕ} {h : History} → Takes who P xs m h
      → Takes who Q ys k (after_all here xs h) → Takes who Q (xs ++ ys) (m + k) h
  takes_then {who} {P} {Q} {xs} {ys} {m} {k} {h} a b = record {
    moved = rw (after_then here xs ys h) (moved_then a.moved b.moved);
    counted = omega (arith, accepted_then here xs ys h, a.counted, b.counted);
  }

  -- a step of a running replica, by the rule that is its own
  pub obeys : LongStrip N strip → (r : Rack) (c : ℕ) → Acts N r c → (a : Act) → from_nobody N a ≡ false → (x : Rule) → own_rule N strip a r (r.at c) ≡ x
      → Unmet x.refusals → decide N strip (record { who = numbered c; act = a }) r ≡ x.effect
  obeys long r c acts a somebody x e unmet = through N r c acts strip long a somebody ∙ ap settle e ∙ none_met Refuse x.effect x.refusals unmet

  -- one step that is accepted
  pub one_step : (a : Step) {e : Effect} (Q : Claim) (h : History) → let c = a.who.0 in let r = h.rack in
      decide N strip a r ≡ e → accepted e ≡ true → (apply c e r).known ≡ r.known → Q c (card (apply c e r) c) → Takes (λ d. d ≡ c) Q (a ∷ []) 1 h
  unfolding after_all take_step
  one_step a {e} Q h is good known now = let r = h.rack in record {
    moved = rw is (record {
      reached = λ d q. rw q now;
      others = λ d ne i. record { own = other_stays r a.who.0 d ne e i; said = λ so s p. other_silent r a.who.0 d ne e so s p i };
      known = known;
    });
    counted = accepted_one here a h ∙ ap (λ (e : Effect). bit (accepted e)) is ∙ ap bit good;
  }

  -- ---- turn by turn

  module _ (ok : ℕ → Bool) (P Q : Claim) (steps : ℕ → List Step) (m : ℕ) (h : History) where
    -- if each turn takes its own replica from P to Q, where each other is still at P or already at Q, then all turns take all there
    pub sweep : ((c : ℕ) → c < n → ok c ≡ true → (h' : History) → h'.rack.known ≡ h.rack.known
        → ((d : ℕ) → Those ok n d → P d (card h'.rack d) ⊎ Q d (card h'.rack d)) → P c (card h'.rack c) → Takes (λ d. d ≡ c) Q (steps c) m h')
        → ((d : ℕ) → Those ok n d → P d (card h.rack d)) → Takes (Those ok n) Q (for_each n ok steps) (count n ok * m) h
    sweep turn all = let (moved, counted) = each here n ok steps m At makes passed n (le_refl n) h start in record { moved = moved; counted = counted }
      where
        At : ℕ → History → Type 0
        At k h' = Moved (Those ok k) Q h.rack h'.rack

        start : At 0 h
        start = record { reached = λ d those. absurd (let l = those.0 in omega arith); others = λ d _. refl; known = refl }

        still : (k d : ℕ) (h' : History) → At k h' → k ≤ d → Those ok n d → P d (card h'.rack d)
        still k d h' now l those = subst (P d) (sym (now.others d (λ early. absurd (let l' = early.0 in omega arith)))) (all d those)

        later : {k : ℕ} (d : ℕ) → Those ok k d → Those ok (suc k) d
        later d early = (let l = early.0 in omega arith, early.1)

        makes : (k : ℕ) (h' : History) → k < n → ok k ≡ true → At k h'
            → At (suc k) (after_all here (steps k) h') × (accepted_of here (steps k) h' ≡ m)
        makes k h' l e now = (
          record {
            reached = λ d those. go d those (ℕ_discrete d k);
            others = λ d not-one. turned.moved.others d (λ q. not-one (omega arith, ap ok q ∙ e)) ∙ now.others d (λ early. not-one (later d early));
            known = turned.moved.known ∙ now.known;
          },
          turned.counted,
        )
          where
            side : (d : ℕ) → Those ok n d → Dec (d < k) → P d (card h'.rack d) ⊎ Q d (card h'.rack d)
            side d those (yes b) = inr (now.reached d (b, those.1))
            side d those (no b) = inl (still k d h' now (omega arith) those)

            turned : Takes (λ d. d ≡ k) Q (steps k) m h'
            turned = turn k l e h' now.known (λ d those. side d those (dec_lt d k)) (still k k h' now (omega arith) (l, e))

            go : (d : ℕ) → Those ok (suc k) d → Dec (d ≡ k) → Q d (card (after_all here (steps k) h').rack d)
            go d those (yes q) = turned.moved.reached d q
            go d those (no ne) = subst (Q d) (sym (turned.moved.others d ne)) (now.reached d (let l = those.0 in omega arith, those.1))

        passed : (k : ℕ) (h' : History) → k < n → ok k ≡ false → At k h' → At (suc k) h'
        passed k h' l e now = record {
          reached = λ d those. now.reached d (go d those (ℕ_discrete d k), those.1);
          others = λ d not-one. now.others d (λ early. not-one (later d early));
          known = now.known;
        }
          where
            go : (d : ℕ) → Those ok (suc k) d → Dec (d ≡ k) → d < k
            go d those (yes q) = absurd (true≢false (sym those.1 ∙ ap ok q ∙ e))
            go d those (no ne) = let l = those.0 in omega arith
