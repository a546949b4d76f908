-- How long the report of a step file can be: no record's line has more than 24 bytes, and at the end each controller that the
-- player has tables for has a line of at most 19 bytes and 21 for each slot.
use Prim.Native.Nat.{ℕ, zero, suc, ◌+◌, ◌*◌, ◌≤◌, ◌<◌, zero-le}
use native.Mathlib.Omega.{arith}
use Rattle.std.proofs.Common.{le_trans, mul-suc, mul-le-mul}
use Rattle.std.specs.Prelude.{◌≡◌}
use Rattle.std.proofs.Math.Path.{refl}
use Rattle.std.proofs.Math.Bool.{false}
use mathlib.Core.List.{List}
use Rattle.std.proofs.Math.ListN.{length, length-append}
use Rattle.tables.specs.Types.{Numbers}
use Rattle.tables.specs.Types.{Call, Open, Single, RunOn, Answer}
use Rattle.tables.specs.Types.{Conduct}
use Rattle.model.specs.Limits.{most_slots}
use Rattle.model.specs.Rack.{Replica}
use Rattle.model.proofs.Cases.{if-ind, Unmet, unless_ind}
use Rattle.tables.specs.Layout.{Tables}
use Rattle.tables.specs.View.{view}
use Rattle.tables.specs.Sound.{slots_few}
use Rattle.tables.specs.Calls.{OpenOutcome, called}
use Rattle.files.specs.Lines.{bench_line, bench_lines}
use Rattle.files.specs.Found.{Found, Option, Ok, Err, None, Some, run_numbers}
use Rattle.files.specs.declared.Player.{Player}
use Rattle.files.specs.Play.{Turn, too_large, opened_by, place_refusals, called_in_place, turned, turn, goes_on, play, begun}
use Rattle.files.specs.Reported.{lines, ending, ending_of, fresh, whole, report}
use Rattle.files.proofs.Playing.{opened_sound}
use Rattle.files.specs.Unopened.{step_answer, run_answer, conduct_answer}
use Rattle.files.specs.Fits.{bench_most, bench_short, lines_short, opening_fits, Fit, Stays}

benches_short : (at : ℕ → Replica) (slots : ℕ) → slots ≤ most_slots → ((c : ℕ) → (at c).closed ≤ slots)
    → (c : ℕ) → c < 100 → length (bench_lines c at) ≤ bench_most slots * c
unfolding bench_lines
benches_short at slots little few zero h = omega arith
benches_short at slots little few (suc c) h =
    let r = at c in
    let a = benches_short at slots little few c (omega arith) in
    let b = bench_short c r.crashed slots r.closed r.entry (omega arith) little (few c) in
    let d = length-append (bench_lines c at) (bench_line c r.crashed r.closed r.entry) in
    let e : bench_most slots * suc c ≡ bench_most slots * c + bench_most slots = mul-suc (bench_most slots) c in omega arith

-- ---- an opened run is no larger than the player's tables

module _ (most : Numbers) where
  module _ (run : Option Numbers) (fit : Fit most run) (t : Tables) (strip : List ℕ) where
    abbrev Left : Answer → Type 0
    Left = Stays most run fit t strip

    call_fits : (N : Numbers) (a : Call) → too_large most a ≡ false → Left (called N a t strip).answer
    unfolding called
    call_fits N (Open q) small = opening_fits most run fit t strip q small
    call_fits N (Single a) small = step_answer Left (λ why. fit) fit (λ _. fit) (λ _ _. fit) N strip t a
    call_fits N (RunOn c) small = run_answer Left (λ why. fit) fit (λ _. fit) (λ _ _. fit) N strip t c
    call_fits N Conduct small = conduct_answer Left (λ why. fit) fit (λ _. fit) (λ _ _. fit) N strip t

  module _ (p : Player) (next : ℕ) (fit : Fit most p.opened) (t : Tables) (strip : List ℕ) where
    turn_fits : (f : Found) → Fit most (turned most p t strip next f).player.opened
    unfolding turned called_in_place Unmet
    turn_fits (Ok None) = fit
    turn_fits (Err why) = fit
    turn_fits (Ok (Some a)) =
        unless_ind (λ (o : OpenOutcome). Fit most (opened_by o.answer p.opened)) (place_refusals most p a) (λ why. fit)
        (λ u. call_fits p.opened fit t strip (run_numbers p.opened) a u.1.0)

-- ---- the whole report

module _ (most : Numbers) (file : List ℕ) (t : Tables) (strip : List ℕ) where
  played_fits : (k : ℕ) → Fit most (play k most file (begun fresh t strip)).player.opened
  unfolding play turn
  played_fits zero = tt
  played_fits (suc k) = let y = play k most file (begun fresh t strip) in
      if-ind (λ (x : Turn). Fit most x.player.opened) (goes_on y.said) (λ _. turn_fits most y.player _ (played_fits k) y.tables y.strip _)
      (λ _. played_fits k)

  ending_short : (k : ℕ) → length (ending (play k most file (begun fresh t strip))) ≤ bench_most most.slots * most.n
  ending_short k = go x.player.opened refl (played_fits k)
    where
      x : Turn
      x = play k most file (begun fresh t strip)

      go : (run : Option Numbers) → x.player.opened ≡ run → Fit most run → length (ending_of run x.tables) ≤ bench_most most.slots * most.n
      go None e fit = zero-le
      go (Some N) e fit =
          let fine = opened_sound most file t strip k N e in
          let b = fine.within in
          le_trans (benches_short (view N x.tables).at N.slots b.slots_few (slots_few N fine) N.n (omega arith)) (mul-le-mul (omega arith) fit.0)

  pub report_fits : length file < 100000 → length (report most file t strip) ≤ 24 * length file + bench_most most.slots * most.n
  unfolding report whole
  report_fits h =
      let x = begun fresh t strip in
      let a = lines_short (length file) most file x h in
      let b = ending_short (length file) in
      let c = length-append (lines (length file) most file x) (ending (whole most file t strip)) in omega arith
