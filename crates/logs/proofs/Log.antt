-- A replica's log: the entries of its closed slots. In the memories it is one run of the orders' cells.
use Rattle.std.specs.Prelude.{ℕ, ◌<◌, ◌≡◌, map}
use Rattle.std.proofs.Common.{sym, ap, ◌∙◌, ext_get_or}
use Rattle.model.proofs.Grown.{length_grown, getD_grown}
use Rattle.tables.specs.Types.{Numbers}
use Rattle.tables.specs.Layout.{Tables}
use Rattle.tables.specs.View.{closed_in, log_in, view}
use Rattle.tables.specs.Sound.{Sound, own_view}
use Rattle.shelf.specs.Planes.{upto}
use Rattle.shelf.specs.Bytes.{map_grows}
use Rattle.logs.specs.Log.{cell, length_cells, log_cells, log_of}

module _ (N : Numbers) {t : Tables} (fine : Sound N t) {c : ℕ} (there : c < N.n) where
  open N use {slots}

  abbrev closed : ℕ
  closed = closed_in t.words c

  -- they are its log, as the rules read the memories
  pub same_log : log_cells N t c ≡ log_of ((view N t).at c)
  same_log =
      let grows = map_grows (log_in N t.orders c) in
      ext_get_or 0 (log_cells N t c) (map (log_in N t.orders c) (upto closed)) (length_cells N fine there ∙ sym (length_grown grows closed))
      (λ s h. let low : s < closed = rw (length_cells N fine there) at h in cell N fine there s low ∙ sym (getD_grown grows closed s low))
      ∙ ap log_of (sym (own_view N t there))
