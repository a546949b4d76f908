-- Document 02, "Counts on the controller's card", of any memories: "3 also when either count exceeds the closed slots", in every call that
-- is lent the record; and a crash keeps the counts.
use Rattle.std.specs.Prelude.{ℕ, ◌≤◌, ◌<◌, Bool, true, false, not, ◌||◌, List, ◌≡◌, refl, ltb, length}
use Rattle.std.proofs.Math.Option.{some as just}
use Rattle.std.proofs.Common.{◌∙◌, lt-ltb, le-leb}
use Rattle.std.proofs.lemmas.Bool.{not-true}
use Rattle.tables.specs.declared.Record.{Record}
use Rattle.tables.specs.Types.{Numbers, SpoiledRecord, Call, Open, Single, RunOn, Conduct}
use Rattle.model.specs.Tests.{if}
use Rattle.model.specs.Limits.{limited}
use Rattle.model.specs.Rules.{is_crash}
use Rattle.model.proofs.Branches.{if-true}
use Rattle.model.proofs.Cases.{clash, and_both, or_right, unless_ind}
use Rattle.model.proofs.Counting.{any_here}
use Rattle.tables.specs.Layout.{Tables, known_in, record_end, record_at}
use Rattle.tables.specs.Checks.{astray, overcounted, spoiled, spoiled_at, any_spoiled}
use Rattle.tables.specs.Calls.{CrashOutcome, crash_refusals, crashed}
use Rattle.promises.specs.Order.{first_met, turned_away, call_refusals}
use Rattle.promises.specs.Refusals.{crash_answers}

-- a call on the tables that looks at all n records: every one but an opening and a crash
abbrev pub looks_at_all : Call → Bool
looks_at_all (Open q) = false
looks_at_all (Single a) = not (is_crash a.act)
looks_at_all (RunOn c) = true
looks_at_all Conduct = true

module _ (N : Numbers) where
  overcounted_spoils : (k : Record) → overcounted k ≡ true → spoiled N k ≡ true
  unfolding spoiled
  overcounted_spoils k over = or_right (astray N k) _ over

  -- of one of the n replicas whose record is there, whoever acts
  module _ (t : Tables) (strip : List ℕ) (c : ℕ) (of-run : c < N.n) (there : record_end c ≤ length t.words)
      (over : overcounted (record_at t.words c) ≡ true) where
    spoils_all : (not (limited N) || (ltb N.room (known_in t.words) || any_spoiled N t.words)) ≡ true
    unfolding any_spoiled
    spoils_all = or_right (not (limited N)) _ (or_right (ltb N.room (known_in t.words)) _
        (any_here N.n (spoiled_at N t.words) c of-run (and_both _ _ (le-leb _ _ there) (overcounted_spoils _ over))))

    pub first_is_3 : (a : Call) → looks_at_all a ≡ true → first_met (call_refusals N a t strip) ≡ just SpoiledRecord
    unfolding first_met if
    first_is_3 (Open q) h = clash h
    first_is_3 (Single a) h = rw (not-true (is_crash a.act) h, spoils_all)
    first_is_3 (RunOn c) h = rw spoils_all
    first_is_3 Conduct h = rw spoils_all

  -- a crash, by the one record that it is lent
  pub overcounted_not_crashed : (c : ℕ) (k : Record) → c < N.n → overcounted k ≡ true → turned_away (crashed N c k).answer ≡ just SpoiledRecord
  unfolding first_met
  overcounted_not_crashed c k of-run over = crash_answers N c k
      ∙ if-true _ _ (or_right (not (limited N)) _ (and_both _ _ (lt-ltb c N.n of-run) (overcounted_spoils k over)))

  -- it keeps them, whatever it answers
  pub crash_keeps_counts : (c : ℕ) (k : Record) → ((crashed N c k).after.empty ≡ k.empty) × ((crashed N c k).after.fast ≡ k.fast)
  unfolding crashed
  crash_keeps_counts c k = unless_ind (λ (o : CrashOutcome). (o.after.empty ≡ k.empty) × (o.after.fast ≡ k.fast)) (crash_refusals N c k)
      (λ why. (refl, refl)) (λ _. (refl, refl))
