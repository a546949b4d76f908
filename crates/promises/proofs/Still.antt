-- An accepted step other than a crash leaves memories that pass refusals 3 and 2 again, and every replica as running as it was; so
-- does every list of steps that has no crash.
use Rattle.std.specs.Prelude.{ℕ, List, [], ◌∷◌}
use Rattle.std.proofs.Common.{◌∙◌}
use Rattle.std.proofs.Math.Path.{refl, subst}
use Rattle.tables.specs.Types.{Numbers, Step}
use Rattle.model.specs.Scripts.{accepted, after_all}
use Rattle.model.proofs.Cases.{either}
use Rattle.tables.specs.Layout.{Tables}
use Rattle.tables.specs.Write.{unstored}
use Rattle.tables.specs.Calls.{judge, performed, on_tables}
use Rattle.tables.specs.Sound.{Sound}
use Rattle.promises.specs.Still.{Calm, StillFine, still_fine}

pub still_after : (N : Numbers) (strip : List ℕ) (steps : List Step) (t : Tables) → Calm steps → Sound N t
    → StillFine N t (after_all (on_tables N strip) steps t)
unfolding after_all Calm
still_after N strip [] t calm fine = record { fine = fine; alike = λ d h. refl }
still_after N strip (a ∷ steps) t calm fine =
    let u = performed N strip a t in
    let next : StillFine N t u = either (accepted (judge N strip a t)) (λ e. still_fine N strip a t calm.0 e)
    (λ e. subst (StillFine N t) (unstored N a.who.0 t (judge N strip a t) e) (record { fine = fine; alike = λ d h. refl })) in
    let rest = still_after N strip steps u calm.1 next.fine in
    record { fine = rest.fine; alike = λ d h. rest.alike d h ∙ next.alike d h }
