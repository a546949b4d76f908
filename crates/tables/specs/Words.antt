-- "a byte that is no state or vote, or a proposal of tag 0, is read as not sent"
use Rattle.std.specs.Prelude.{ℕ, ◌<◌, ◌≡◌, refl}
use Rattle.std.proofs.Common.{arith, ne_eqb}
use Rattle.tables.specs.Types.{Sort, Proposals, States, Votes, Notices, Unsent}
use Rattle.model.specs.Tests.{if}
use Rattle.tables.specs.View.{word_in}

pub no_word : (so : Sort) → word_in so 0 ≡ Unsent
unfolding word_in if
no_word Proposals = refl
no_word States = refl
no_word Votes = refl
no_word Notices = refl

pub no_state : (x : ℕ) → 2 < x → word_in States x ≡ Unsent
unfolding word_in if
no_state x h = rw (ne_eqb x 1 (omega arith), ne_eqb x 2 (omega arith)) refl

pub no_vote : (x : ℕ) → 3 < x → word_in Votes x ≡ Unsent
unfolding word_in if
no_vote x h = rw (ne_eqb x 1 (omega arith), ne_eqb x 2 (omega arith), ne_eqb x 3 (omega arith)) refl
