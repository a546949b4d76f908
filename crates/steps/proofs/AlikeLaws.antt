-- A replica as the code reads it off the tables, and as the view does, advance alike: the rules look only at messages of the
-- run, of senders below n.
use Prim.Native.Nat.{ℕ, zero, suc, ◌+◌, ◌≤◌, ◌<◌}
use native.Mathlib.Omega.{arith}
use mathlib.Core.Bool.{Bool, true, false, not, ◌&&◌}
use mathlib.Core.List.{[], ◌∷◌}
use mathlib.Core.Path.{◌≡◌, refl, sym, ◌∙◌, ap}
use lib.Dec.{leb, ltb, eqb}
use Rattle.std.specs.Prelude.{Some, None}
use Rattle.model.specs.declared.Numbers.{Numbers}
use Rattle.model.specs.declared.Round.{Round}
use Rattle.model.specs.declared.Round.TheVariants.{Idle, Exchange, State, Vote, Find}
use Rattle.model.specs.declared.Sort.{Sort}
use Rattle.model.specs.declared.Sort.TheVariants.{Proposals, States, Votes}
use Rattle.model.specs.declared.Word.{Word}
use Rattle.model.specs.declared.Word.TheVariants.{Tag, Say, Unsure}
use Rattle.model.specs.Types.{Outcome}
use Rattle.model.specs.declared.Refusal.TheVariants.{TooFewHeard, PhasesUsedUp}
use Rattle.model.specs.declared.Effect.TheVariants.{Send, Close, Seek}
use Rattle.tables.specs.declared.Record.{Record}
use Rattle.model.specs.Tests.{if}
use Rattle.model.specs.TurnedAway.{◌when◌, ◌⊢◌}
use Rattle.model.specs.Rack.{same_outcome, is, is_sent, tag_of, Messages, Replica}
use Rattle.model.specs.Rules.{quorum, majority, heard_count, tally, majority_among, majority_tag, exchange_rule}
use Rattle.model.specs.Rules.{state_rule, outcome, conclude, vote_rule, find_rule, advance_rule, phase_in}
use Rattle.model.proofs.Counting.{count_same}
use Rattle.tables.specs.View.{guarded, replica_in}
use Rattle.tables.specs.Addresses.{guarded_at}
use Rattle.tables.specs.Checks.{misplaced}
use Rattle.messages.specs.Reach.{reading}
use Rattle.tables.specs.Sound.{in_slot, in_state, in_vote}

module _ (N : Numbers) (r : Record) (e : ℕ → ℕ) (h : ℕ → Bool) (m : Messages) (low : r.slot < N.slots) where
  open N use {n, f, phases}

  abbrev k : Replica
  k = reading r.slot r.phase m

  abbrev k' : Replica
  k' = replica_in N r e h (guarded N m)

  -- a message of the run is read as it stands
  inside : (so : Sort) (q d : ℕ) → phase_in N so q ≡ true → d < n → m so r.slot q d ≡ guarded N m so r.slot q d
  inside so q d p l = sym (guarded_at N m (record { sender = l; slot = low; phase = p }))

  -- so the counts are the same
  heard_alike : (so : Sort) (q : ℕ) → phase_in N so q ≡ true → heard_count N k so q ≡ heard_count N k' so q
  heard_alike so q p = count_same n _ _ (λ d l. ap is_sent (inside so q d p l))

  tally_alike : (so : Sort) (q : ℕ) (w : Word) → phase_in N so q ≡ true → tally N k so q w ≡ tally N k' so q w
  tally_alike so q w p = count_same n _ _ (λ d l. ap (is w) (inside so q d p l))

  proposals_in : phase_in N Proposals 0 ≡ true
  unfolding phase_in
  proposals_in = refl

  -- and the majority tag
  among_alike : (d : ℕ) → d ≤ n → majority_among N k d ≡ majority_among N k' d
  unfolding majority_among
  among_alike zero l = refl
  among_alike (suc d) l =
      let x = ap tag_of (inside Proposals 0 d proposals_in l) in
      let t = tally_alike Proposals 0 (Tag (tag_of (m Proposals r.slot 0 d))) proposals_in ∙ ap (λ (y : ℕ). tally N k' Proposals 0 (Tag y)) x in
      let rest = among_alike d (omega arith) in
      λ i. if (leb (majority N) (t i)) (x i) (rest i)

  tag_alike : majority_tag N k ≡ majority_tag N k'
  tag_alike = among_alike n (omega arith)

  -- and what each rule gives
  exchange_alike : exchange_rule N k ≡ exchange_rule N k'
  exchange_alike = let c = heard_alike Proposals 0 proposals_in in
      λ i. TooFewHeard when ltb (c i) (quorum N) ∷ [] ⊢ Send States 1 (Say (not (eqb (tag_alike i) 0)))

  find_alike : find_rule N k ≡ find_rule N k'
  find_alike = λ i. TooFewHeard when eqb (tag_alike i) 0 ∷ [] ⊢ Close (tag_alike i) true

  module _ (p : phase_in N States r.phase ≡ true) where
    state_alike : state_rule N k ≡ state_rule N k'
    state_alike =
        let c = heard_alike States r.phase p in
        let z = tally_alike States r.phase (Say false) p in
        let o = tally_alike States r.phase (Say true) p in
        λ i. TooFewHeard when ltb (c i) (quorum N) ∷ []
        ⊢ Send Votes r.phase (if (leb (majority N) (z i)) (Say false) (if (leb (majority N) (o i)) (Say true) Unsure))

  module _ (p : phase_in N Votes r.phase ≡ true) (flip : Bool) where
    -- and the votes of each value
    zeros : tally N k Votes r.phase (Say false) ≡ tally N k' Votes r.phase (Say false)
    zeros = tally_alike Votes r.phase (Say false) p

    ones : tally N k Votes r.phase (Say true) ≡ tally N k' Votes r.phase (Say true)
    ones = tally_alike Votes r.phase (Say true) p

    outcome_alike : outcome N k ≡ outcome N k'
    outcome_alike = λ i. if (leb (f + 1) (zeros i)) (Some false) (if (leb (f + 1) (ones i)) (Some true) None)

    conclude_alike : (o : Outcome) → conclude N flip k o ≡ conclude N flip k' o
    unfolding conclude
    conclude_alike (Some false) = refl
    conclude_alike (Some true) = λ i. if (eqb (tag_alike i) 0) Seek (Close (tag_alike i) true)
    conclude_alike None = λ i. Send States (suc r.phase) (Say (if (leb 1 (zeros i)) false (if (leb 1 (ones i)) true flip)))

    vote_alike : vote_rule N flip k ≡ vote_rule N flip k'
    vote_alike =
        let c = heard_alike Votes r.phase p in
        let o = conclude_alike (outcome N k) ∙ ap (conclude N flip k') outcome_alike in
        λ i. TooFewHeard when ltb (c i) (quorum N) ∷ PhasesUsedUp when (same_outcome None (outcome_alike i) && leb phases r.phase) ∷ [] ⊢ o i

-- by the round
pub advance_alike : (N : Numbers) (r : Record) (e : ℕ → ℕ) (h : ℕ → Bool) (m : Messages) (flip : Bool) (a : Round) → misplaced N a r.slot r.phase ≡ false
    → advance_rule N flip (reading r.slot r.phase m) a ≡ advance_rule N flip (replica_in N r e h (guarded N m)) a
unfolding advance_rule
advance_alike N r e h m flip Idle q = refl
advance_alike N r e h m flip Exchange q = exchange_alike N r e h m (in_slot N _ _ Exchange refl q)
advance_alike N r e h m flip State q = state_alike N r e h m (in_slot N _ _ State refl q) (in_state N _ _ q)
advance_alike N r e h m flip Vote q = vote_alike N r e h m (in_slot N _ _ Vote refl q) (in_vote N _ _ q) flip
advance_alike N r e h m flip Find q = find_alike N r e h m (in_slot N _ _ Find refl q)
