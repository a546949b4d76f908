-- What a read finds, in document 01's numbers: the refusal, and of a record its kind and the numbers of its body.
use Rattle.std.specs.Prelude.{ℕ, ◌+◌, ◌-◌, Bool, ◌&&◌, List, [], ◌∷◌, ltb, eqb, length}
use Rattle.model.specs.declared.Refusal.TheVariants.{UnknownKind, CutRecord}
use Rattle.model.specs.declared.Act.{Act}
use Rattle.model.specs.declared.Act.TheVariants.{Submit, Relay, Begin, Hear, Advance, Crash}
use Rattle.model.specs.declared.Call.{Call}
use Rattle.model.specs.declared.Call.TheVariants.{Open, Single, RunOn, Conduct}
use Rattle.model.specs.Answers.{refusal_number}
use Rattle.model.specs.Tests.{if}
use Rattle.model.specs.TurnedAway.{Ground, ◌when◌, unless}
use Rattle.files.specs.Found.{Found, Ok, Err, None, Some}
use Rattle.files.specs.Format.{number, byte, last_kind, step_kind, is_wide, slot_bytes, body_length}

-- ---- of each case

-- a step's kind, its controller, and what follows
abbrev pub act_values : ℕ → Act → List ℕ
act_values c (Submit x) = 1 ∷ c ∷ x ∷ []
act_values c (Relay x) = 2 ∷ c ∷ x ∷ []
act_values c Begin = 3 ∷ c ∷ []
act_values c (Hear m) = 4 ∷ c ∷ m.sender.0 ∷ m.sort ∷ m.slot.0 ∷ m.phase.0 ∷ []
act_values c Advance = 5 ∷ c ∷ []
act_values c Crash = 6 ∷ c ∷ []

abbrev pub call_values : Call → List ℕ
call_values (Open q) = let N = q.numbers in 0 ∷ N.n ∷ N.f ∷ N.slots ∷ N.phases ∷ N.room ∷ q.start ∷ []
call_values (Single a) = act_values a.who.0 a.act
call_values (RunOn c) = 7 ∷ c.0 ∷ []
-- of no record
call_values Conduct = []

-- 0: no refusal
abbrev pub found_number : Found → ℕ
found_number (Ok None) = 0
found_number (Err why) = refusal_number why
found_number (Ok (Some a)) = 0

-- the end of the file has none
abbrev pub found_values : Found → List ℕ
found_values (Ok None) = []
found_values (Err why) = []
found_values (Ok (Some a)) = call_values a

-- ---- of a place in a file

-- "19 unknown kind", "20 cut record: step file ends inside a body": of a record that begins before the end
abbrev pub record_refusals : List ℕ → ℕ → List Ground
record_refusals file at = let kind = byte file at in let more = ltb at (length file) in
    UnknownKind when (more && ltb last_kind kind) ∷ CutRecord when (more && ltb (length file - (at + 1)) (body_length kind)) ∷ []

unfoldable pub record_number : List ℕ → ℕ → ℕ
record_number file at = unless refusal_number (record_refusals file at) 0

-- how many bytes each number of a step's body has
unfoldable pub widths : ℕ → Bool → List ℕ
widths step wide =
    if (eqb step 0) (1 ∷ 1 ∷ slot_bytes wide ∷ 1 ∷ 2 ∷ 2 ∷ []) (if (eqb step 1) (1 ∷ 8 ∷ []) (if (eqb step 2) (1 ∷ 8 ∷ [])
    (if (eqb step 4) (1 ∷ 1 ∷ 1 ∷ slot_bytes wide ∷ 1 ∷ []) (1 ∷ []))))

-- the numbers of these widths, one behind another
unfoldable pub numbers_at : List ℕ → List ℕ → ℕ → List ℕ
numbers_at [] file i = []
numbers_at (w ∷ ws) file i = number w file i ∷ numbers_at ws file (i + w)

-- the kind is told as that of the step, in either form
unfoldable pub record_values : List ℕ → ℕ → List ℕ
record_values file at = let kind = byte file at in
    if (ltb at (length file)) (unless (λ why. []) (record_refusals file at)
    (step_kind kind ∷ numbers_at (widths (step_kind kind) (is_wide kind)) file (at + 1))) []
