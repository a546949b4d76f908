-- How many advances a run on counts at most, with those that it may still make.
use Rattle.std.specs.Prelude.{ℕ, ◌+◌, ◌*◌}
use Rattle.model.specs.Limits.{most_phases}

abbrev pub most_steps : ℕ
most_steps = 2 * most_phases + 7
