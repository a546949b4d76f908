-- Document 01, "Step file": "One byte of kind, then a body whose length the kind fixes; longer numbers have the lowest byte
-- first."
use Rattle.std.specs.Prelude.{ℕ, zero, suc, ◌+◌, ◌-◌, ◌*◌, Bool, List, leb, ltb, eqb, length, get_or}
use Rattle.model.specs.declared.Refusal.TheVariants.{UnknownKind, CutRecord}
use Rattle.model.specs.declared.ReplicaId.{ReplicaId}
use Rattle.model.specs.declared.Plan.{Plan}
use Rattle.model.specs.declared.Message.{Message}
use Rattle.model.specs.declared.Act.{Act}
use Rattle.model.specs.declared.Act.TheVariants.{Submit, Relay, Begin, Hear, Advance, Crash}
use Rattle.model.specs.declared.Call.{Call}
use Rattle.model.specs.declared.Call.TheVariants.{Open, Single, RunOn}
use Rattle.model.specs.Tests.{if}
use Rattle.files.specs.Found.{Found, Ok, Err, None, Some}
use Rattle.files.specs.declared.Read.{Read}

-- the number in so many bytes, the lowest first
unfoldable pub number : ℕ → List ℕ → ℕ → ℕ
number zero file i = 0
number (suc k) file i = get_or file i 0 + 256 * number k file (i + 1)

abbrev pub byte : List ℕ → ℕ → ℕ
byte file i = get_or file i 0

abbrev pub replica : List ℕ → ℕ → ReplicaId
replica file i = record { 0 = byte file i }

-- kinds 0 to 7 name the steps. Document 02: "A new opening, kind 8, and a new hear, kind 9, carry the slot count or slot in two
-- bytes; kinds 0 and 4 are still read as before."
abbrev pub last_kind : ℕ
last_kind = 9

-- the step that a kind is a form of
unfoldable pub step_kind : ℕ → ℕ
step_kind kind = if (eqb kind 8) 0 (if (eqb kind 9) 4 kind)

-- whether it has two bytes for a slot count or slot
unfoldable pub is_wide : ℕ → Bool
is_wide kind = ltb 7 kind

abbrev pub slot_bytes : Bool → ℕ
slot_bytes wide = if wide 2 1

-- how long the body of a step is, and that of a kind
unfoldable pub step_length : ℕ → Bool → ℕ
step_length step wide =
    if (eqb step 0) (slot_bytes wide + 7) (if (eqb step 1) 9 (if (eqb step 2) 9 (if (eqb step 4) (slot_bytes wide + 4) 1)))

abbrev pub body_length : ℕ → ℕ
body_length kind = step_length (step_kind kind) (is_wide kind)

-- "0 opening: n, f, slots, phases, tag room (2 bytes), coin start (2 bytes)"; in kind 8 the slots have 2 bytes
abbrev pub plan_at : Bool → List ℕ → ℕ → Plan
plan_at wide file i = let w = slot_bytes wide in record {
  numbers = record {
    n = byte file i;
    f = byte file (i + 1);
    slots = number w file (i + 2);
    phases = byte file (i + 2 + w);
    room = number 2 file (i + 3 + w);
  };
  start = number 2 file (i + 5 + w);
}

-- "4 hear: receiver, sender, sort (1 proposal, 2 state, 3 vote), slot, phase (0 for a proposal)": what follows the receiver; in kind 9
-- the slot has 2 bytes. Document 02 has sort 4, with phase 0, for a notice.
abbrev pub message_at : Bool → List ℕ → ℕ → Message
message_at wide file i = let w = slot_bytes wide in record {
  sender = replica file i;
  sort = byte file (i + 1);
  slot = record { 0 = number w file (i + 2) };
  phase = record { 0 = byte file (i + 2 + w) };
}

-- what the body at a place tells its controller to do: "1 submit: controller, tag (8 bytes)", "2 relay" alike, "3 begin:
-- controller", "5 advance: controller", "6 crash: controller"
unfoldable pub act_at : ℕ → Bool → List ℕ → ℕ → Act
act_at step wide file i =
    if (eqb step 1) (Submit (number 8 file (i + 1)))
    (if (eqb step 2) (Relay (number 8 file (i + 1)))
    (if (eqb step 3) Begin
    (if (eqb step 4) (Hear (message_at wide file (i + 1)))
    (if (eqb step 5) Advance Crash))))

-- the call of a step and the body at a place: every body but an opening's begins with the acting controller. "7 run on:
-- controller"
unfoldable pub step_at : ℕ → Bool → List ℕ → ℕ → Call
step_at step wide file i =
    if (eqb step 0) (Open (plan_at wide file i))
    (if (eqb step 7) (RunOn (replica file i)) (Single (record { who = replica file i; act = act_at step wide file i })))

-- the call of a kind
abbrev pub call_at : ℕ → List ℕ → ℕ → Call
call_at kind = step_at (step_kind kind) (is_wide kind)

abbrev pub read : Found → ℕ → Read
read found next = record { found = found; next = next }

-- what stands at a place, and where reading goes on. "At 19 or 20 reading stops": the place stays, and so it does at the
-- end, so that a further read finds the same.
unfoldable pub file_record : List ℕ → ℕ → Read
file_record file at =
    if (leb (length file) at) (read (Ok None) at)
    (if (ltb last_kind (byte file at)) (read (Err UnknownKind) at)
    (if (ltb (length file - (at + 1)) (body_length (byte file at))) (read (Err CutRecord) at)
    (read (Ok (Some (call_at (byte file at) file (at + 1)))) (at + 1 + body_length (byte file at)))))
