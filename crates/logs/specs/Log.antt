-- A replica's log: the entries of its closed slots. In the memories it is one run of the orders' cells.
use Rattle.std.specs.Prelude.{ℕ, ◌+◌, ◌*◌, ◌≤◌, ◌<◌, ◌≡◌, List, map, ltb, length, get_or, take, drop}
use Rattle.std.proofs.Common.{◌∙◌, suc-mul, mul-le-mul_right, arith, length-drop, length-take-le, get_or-take, get_or-drop, ltb-true, ltb-false}
use Rattle.std.proofs.Math.ListN.{get_or-eq_default}
use Rattle.model.specs.Rack.{Replica}
use Rattle.model.proofs.Cases.{either}
use Rattle.model.proofs.Grown.{length_grown, getD_grown}
use Rattle.tables.specs.Types.{Numbers}
use Rattle.tables.specs.Layout.{Tables, log_cell}
use Rattle.tables.specs.View.{closed_in, log_in}
use Rattle.tables.specs.Addresses.{log_read}
use Rattle.tables.specs.Sound.{Sound, own_view, slots_few}
use Rattle.shelf.specs.Planes.{upto}
use Rattle.shelf.specs.Bytes.{map_grows}
use Rattle.shelf.specs.Layouts.{Below}

-- the entries of its closed slots, in their order
abbrev pub log_of : Replica → List ℕ
log_of k = map k.entry (upto k.closed)

-- the cells that are lent as the log of replica c: from that of slot 0 on, as many as its record says are closed
abbrev pub log_cells : Numbers → Tables → ℕ → List ℕ
log_cells N t c = take (closed_in t.words c) (drop (log_cell N c 0) t.orders)

-- its numbers are below a bound that all entries are below
pub made_below : {bound : ℕ} (g : ℕ → ℕ) (n : ℕ) → 0 < bound → ((k : ℕ) → k < n → g k < bound) → Below bound (map g (upto n))
made_below g n some fit k =
    either (ltb k n) (λ h. let low = ltb-true k n h in rw (getD_grown (map_grows g) n k low) (fit k low))
    (λ h. let past = ltb-false k n h in rw (get_or-eq_default (map g (upto n)) 0 {n = k} (rw (length_grown (map_grows g) n) past)) some)

module _ (N : Numbers) {t : Tables} (fine : Sound N t) {c : ℕ} (there : c < N.n) where
  open N use {slots}

  abbrev pub closed : ℕ
  closed = closed_in t.words c

  pub closed_low : closed ≤ slots
  closed_low = rw (own_view N t there) at (slots_few N fine c)

  -- so many cells are there
  long : closed ≤ length (drop (log_cell N c 0) t.orders)
  long =
      let all : c * slots + slots ≤ N.n * slots = rw (← suc-mul c slots) (mul-le-mul_right slots there) in
      rw length-drop (omega (arith, fine.long.orders, closed_low))

  pub length_cells : length (log_cells N t c) ≡ closed
  length_cells = length-take-le closed (drop (log_cell N c 0) t.orders) long

  pub cell : (s : ℕ) → s < closed → get_or (log_cells N t c) s 0 ≡ log_in N t.orders c s
  cell s h =
      let next : log_cell N c 0 + s ≡ log_cell N c s = omega arith in
      let low : s < slots = omega (arith, closed_low) in
      get_or-take closed (drop (log_cell N c 0) t.orders) s 0 h ∙ get_or-drop (log_cell N c 0) t.orders s 0
      ∙ rw next (log_read N t.orders c s low)
