-- Document 01, "Turned-away steps", and document 02: the refusals of every call, as the definitions list them; that their order is the one of
-- the paragraph "Order."; and what it means that a call is turned away by such a list. specs/Refusals proves that every call
-- is.
use Rattle.std.specs.Prelude.{ℕ, Bool, true, false, List, [], ◌∷◌, ◌++◌, map, ◌≡◌}
use Rattle.std.proofs.Math.Option.{Option, some as just, none}
use Rattle.std.proofs.Math.Path.{refl, ap}
use Rattle.tables.specs.declared.Record.{Record}
use Rattle.tables.specs.Types.{Numbers, Plan, Idle, Exchange, State, Vote, Find, Sort, Word, Refusal, Effect, Refuse}
use Rattle.tables.specs.Types.{Hold, Send, Close, Seek, Receive, Halt, Message, Act, Submit, Relay, Begin}
use Rattle.tables.specs.Types.{Crash, Step, Call, Open, Single, RunOn, Conduct, Answer, Refused, Done, Ran, Opened}
use Rattle.tables.specs.Types.{Conducted}
use Rattle.model.specs.Tests.{if}
use Rattle.model.specs.Answers.{refusal_number}
use Rattle.model.specs.Rack.{is_sent, Rack, Replica}
use Rattle.model.specs.TurnedAway.{Ground, Rule}
use Rattle.model.specs.Rules.{advance_rule, heed, hear_rule, own_rule, first_refusals, rule}
use Rattle.model.proofs.Branches.{if-true, if-false}
use Rattle.model.specs.Conductor.{conduct_refusals}
use Rattle.model.specs.Scripts.{advance}
use Rattle.coin.specs.Strip.{strip_refusals}
use Rattle.shelf.specs.Calls.{planes_refusals, entries_refusals}
use Rattle.tables.specs.Layout.{Tables}
use Rattle.tables.specs.View.{view}
use Rattle.tables.specs.Checks.{tables_refusals, record_refusals}
use Rattle.tables.specs.Calls.{crash_refusals, lent_refusals, tables_barred, opening_refusals}

-- "Each is returned when its condition is met and no earlier one is, and at no other time."
unfoldable pub first_met : List Ground → Option Refusal
first_met [] = none
first_met (g ∷ gs) = if g.met (just g.why) (first_met gs)

-- the refusal that a step comes to, and the one that a call answers; none: it is accepted
abbrev pub refusal_of : Effect → Option Refusal
refusal_of =
    elim [ Refuse why ↦ just why | Hold x ↦ none | Send so p w ↦ none | Close x own ↦ none | Seek ↦ none | Receive so s p d w ↦ none | Halt ↦ none ]

abbrev pub turned_away : Answer → Option Refusal
turned_away = elim [ Refused why ↦ just why | Done ↦ none | Ran k ↦ none | Opened N ↦ none | Conducted k m ↦ none ]

-- ---- the refusals of every call

abbrev pub step_refusals : Numbers → List ℕ → Step → Tables → List Ground
step_refusals N strip a t = lent_refusals N a t ++ (rule N strip a (view N t)).refusals

abbrev pub conductor_refusals : Numbers → List ℕ → Tables → List Ground
conductor_refusals N strip t = tables_barred N strip t ++ conduct_refusals N (view N t)

-- "advance and run on 13, 14, 15"
abbrev pub call_refusals : Numbers → Call → Tables → List ℕ → List Ground
call_refusals N (Open q) t strip = opening_refusals q t strip
call_refusals N (Single a) t strip = step_refusals N strip a t
call_refusals N (RunOn c) t strip = step_refusals N strip (advance c) t
call_refusals N Conduct t strip = conductor_refusals N strip t

-- ---- their order, by the documents' numbers

abbrev order : List Ground → List ℕ
order = map (λ (g : Ground). refusal_number g.why)

abbrev of : Rule → List ℕ
of x = order x.refusals

-- "Opening: 1, 2. Strip: 1, 2."
pub openings : (q : Plan) (t : Tables) (strip : List ℕ) → order (opening_refusals q t strip) ≡ 1 ∷ 2 ∷ []
openings q t strip = refl

pub strips : (slots phases start : ℕ) (strip : List ℕ) → order (strip_refusals slots phases start strip) ≡ 1 ∷ 2 ∷ []
strips slots phases start strip = refl

-- document 02: "1 above 1,024 entries or 8,192 stored bytes; then 24 "odd length" ..; then 2 if the output is short"
pub archives : (entries stored output : List ℕ)
    → (order (planes_refusals entries output) ≡ 1 ∷ 2 ∷ []) × (order (entries_refusals stored output) ≡ 1 ∷ 24 ∷ 2 ∷ [])
archives entries stored output = (refl, refl)

-- a crash of the one record that it is lent
pub crashes : (N : Numbers) (c : ℕ) (k : Record) → order (crash_refusals N c k) ≡ 3 ∷ 4 ∷ 5 ∷ []
crashes N c k = refl

module _ (N : Numbers) where
  -- "Steps: 3, 2, 4, 5": 2 of the tables, then of the strip
  pub lent_first : (a : Step) (t : Tables) → (order (tables_refusals N t) ≡ 3 ∷ 2 ∷ []) × (order (record_refusals N t a.who.0) ≡ 3 ∷ 2 ∷ [])
  lent_first a t = (refl, refl)

  pub firsts : (strip : List ℕ) (a : Step) (r : Rack) → order (first_refusals N strip a r) ≡ 2 ∷ 4 ∷ 5 ∷ []
  firsts strip a r = refl

  -- document 02: "Turned away: 3, 2, 23 "too few lit" .., 22 "not level" .., 11, 12, in this order": 2 of the tables, then of the strip
  pub conducts : (strip : List ℕ) (t : Tables) → order (conductor_refusals N strip t) ≡ 3 ∷ 2 ∷ 2 ∷ 23 ∷ 22 ∷ 11 ∷ 12 ∷ []
  conducts strip t = refl

  module _ (strip : List ℕ) (r : Rack) (k : Replica) where
    abbrev own : Act → List ℕ
    own a = of (own_rule N strip a r k)

    -- "then submit 6, 7, 8; relay 6, 9, 7; begin 10, 11, 12; .. hear 16, 17, 18"
    pub owns : (x : ℕ) → (own (Submit x) ≡ 6 ∷ 7 ∷ 8 ∷ []) × (own (Relay x) ≡ 6 ∷ 9 ∷ 7 ∷ []) × (own Begin ≡ 10 ∷ 11 ∷ 12 ∷ []) × (own Crash ≡ [])
    unfolding own_rule
    owns x = (refl, refl, refl, refl)

    pub hears : (m : Message) (so : Sort) → (of (hear_rule N r.sent k m none) ≡ 16 ∷ []) × (of (hear_rule N r.sent k m (just so)) ≡ 16 ∷ 17 ∷ 18 ∷ [])
    unfolding hear_rule
    hears m so = (refl, refl)

    -- "ahead of every other rule": with a heard notice there is no refusal left, and without one those of the round
    pub heeds : (w : Word) (otherwise : Rule) → (is_sent w ≡ true → of (heed w otherwise) ≡ []) × (is_sent w ≡ false → heed w otherwise ≡ otherwise)
    unfolding heed
    heeds w otherwise = (λ e. ap of (if-true _ _ e), λ e. if-false _ _ e)

    -- "advance and run on 13, 14, 15", of which each round has its own
    pub advances : (flip : Bool) → (of (advance_rule N flip k Idle) ≡ 13 ∷ []) × (of (advance_rule N flip k Exchange) ≡ 14 ∷ [])
        × (of (advance_rule N flip k State) ≡ 14 ∷ []) × (of (advance_rule N flip k Vote) ≡ 14 ∷ 15 ∷ []) × (of (advance_rule N flip k Find) ≡ 14 ∷ [])
    unfolding advance_rule
    advances flip = (refl, refl, refl, refl, refl)
