-- The player's tables are large enough: an opening within the limits that is not larger than the player's numbers is accepted
-- on memories that are long enough for those.
use Rattle.std.specs.Prelude.{ℕ, ◌*◌, ◌≤◌, true, false, ◌||◌, List, ◌≡◌, ltb, length}
use Rattle.std.proofs.Common.{arith}
use Rattle.std.proofs.Math.Nat.{mul-le-mul}
use borrow.Author.Tests.{ltb-false, le-leb, le-ltb}
use Rattle.model.specs.declared.Numbers.{Numbers}
use Rattle.model.specs.declared.Plan.{Plan}
use Rattle.model.specs.declared.Call.TheVariants.{Open}
use Rattle.model.specs.declared.Answer.TheVariants.{Opened}
use Rattle.model.specs.Limits.{planned, plan_limited}
use Rattle.model.specs.TurnedAway.{unless}
use Rattle.model.specs.Tests.{if}
use Rattle.model.proofs.Cases.{or_false}
use Rattle.tables.specs.Layout.{Tables, message_rows, ballot_rows, words_need, orders_need, ballots_need}
use Rattle.tables.specs.Checks.{lengths, long}
use Rattle.tables.specs.Bounds.{is_long}
use Rattle.tables.specs.Calls.{open_rack}
use Rattle.files.specs.Play.{too_large}

-- no number is larger than the other's
pub record AtMost (M N : Numbers) : Type 0 where
  pub n : N.n ≤ M.n
  pub slots : N.slots ≤ M.slots
  pub phases : N.phases ≤ M.phases
  pub room : N.room ≤ M.room

module _ (M N : Numbers) (l : AtMost M N) where
  words_fewer : words_need N ≤ words_need M
  words_fewer =
      let rows : message_rows N ≤ message_rows M = let p = l.phases in omega arith in
      let a = mul-le-mul (mul-le-mul l.slots rows) l.n in
      let b = l.n in let c = l.room in omega arith

  orders_fewer : orders_need N ≤ orders_need M
  orders_fewer = let a = mul-le-mul l.slots l.n in let b = mul-le-mul l.n l.slots in let c = l.room in omega arith

  ballots_fewer : ballots_need N ≤ ballots_need M
  ballots_fewer = let rows : ballot_rows N ≤ ballot_rows M = let p = l.phases in omega arith in mul-le-mul (mul-le-mul l.slots rows) l.n

module _ (most : Numbers) (q : Plan) (limits : plan_limited q ≡ true) (small : too_large most (Open q) ≡ false) where
  abbrev N : Numbers
  N = planned q

  at_most : AtMost most N
  at_most =
      let e : (ltb most.n N.n || (ltb most.slots N.slots || (ltb most.phases N.phases || ltb most.room N.room))) ≡ false
      = rw limits at small in
      let (a, e₁) = or_false (ltb most.n N.n) _ e in
      let (b, e₂) = or_false (ltb most.slots N.slots) _ e₁ in
      let (c, d) = or_false (ltb most.phases N.phases) _ e₂ in
      record { n = ltb-false _ _ a; slots = ltb-false _ _ b; phases = ltb-false _ _ c; room = ltb-false _ _ d }

  pub opens_within : (t : Tables) (strip : List ℕ) → long most (lengths t) ≡ true → most.slots * most.phases ≤ length strip
      → (open_rack q t strip).answer ≡ Opened (planned q)
  unfolding open_rack unless long if
  opens_within t strip enough coins =
      let h = is_long most (lengths t) enough in
      let l = at_most in
      let a = le-leb (words_need N) (length t.words) (let d = words_fewer most N l in let g = h.words in omega arith) in
      let b = le-leb (orders_need N) (length t.orders) (let d = orders_fewer most N l in let g = h.orders in omega arith) in
      let c = le-leb (ballots_need N) (length t.ballots) (let d = ballots_fewer most N l in let g = h.ballots in omega arith) in
      let s = le-ltb (length strip) (N.slots * N.phases) (let d = mul-le-mul l.slots l.phases in omega arith) in
      rw (limits, a, b, c, s)
