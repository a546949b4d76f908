-- The theorem that specs/Claims states, of the tables of a run: for all lent tables and strip, every opening that is accepted on
-- them, every list of calls of its run, and any strip that the conductor is lent then.
use Rattle.std.specs.Prelude.{◌≡◌, refl}
use Rattle.model.specs.Answers.{answer_number}
use Rattle.model.specs.Scripts.{Script, done, take, look, Stage, Played, play}
use Rattle.model.proofs.Cases.{unless_ind}

-- the number of a call is its answer's
pub number_told : {S : Type 0} (w : Stage S) (x : Script) (s : S) → (play w x s).number ≡ answer_number (play w x s).answer
unfolding play
number_told w (done a) s = refl
number_told w (take a next) s = number_told w (next (w.judge a s)) (w.perform a s)
number_told w (look next) s = unless_ind (λ (o : Played _). o.number ≡ answer_number o.answer) (w.barred s) (λ _. refl)
    (λ _. number_told w (next (w.rack s)) s)
