-- What puts the cursor elsewhere or empties cells at it keeps sound captions sound; what a window's move keeps. Assumes nothing.
use mathlib.Core.Path.{◌≡◌, refl, ap}
use mathlib.Core.List.{List}
use Prim.Native.Nat.{ℕ, ◌<◌, ◌≤◌}
use native.Mathlib.Omega.{arith}
use lib.Dec.{eqb, leb}
use borrow.Author.Tests.{eqb-true, eq-eqb}
use Rattle.facts.proofs.Choice.{pick_cases}
use Rattle.cell.specs.declared.Cursor.{Cursor}
use Rattle.cell.specs.Cursor.{back_of, tab_of, Placed}
use Rattle.cell.proofs.Laws.{back_of_keeps_placed, tab_of_keeps_placed}
use Rattle.page.proofs.Each.{empty_cell_of_each, empty_from_of_each}
use Rattle.page.specs.Page.{Holds}
use Rattle.window.specs.Window.{lowered_of}
use Rattle.window.proofs.LawsOfRows.{lowered_of_fits, lowered_of_placed, move_of_loses_no_row}
use Rattle.window.proofs.LawsOfCells.{kept_empty, kept_allowed, move_of_kept, move_of_same}
use Rattle.state.specs.declared.Mode.{Mode}
use Rattle.state.specs.State.{Captions, captions}
use Rattle.state.specs.Style.{roll_up, cursor_of, cursors, with_cursor, memory_of}
use Rattle.state.specs.Ranges.{Ranged, Sound}
use Rattle.state.proofs.Laws.{cursor_of_placed, roll_ranged, with_cursor_ranged, with_cursor_fits, with_cursor_kept, spot}
use Rattle.typing.specs.Typing.{turned_of}
use Rattle.typing.proofs.Laws.{turned_of_sound}
use Rattle.placing.specs.Placing.{bs_of, der_of, tabbed_of, moved_of, preamble_of, window_at}

-- the row of a cursor that moves within it
back_of_row : (c : Cursor) → (back_of c).row ≡ c.row
unfolding back_of
back_of_row c = pick_cases (λ (x : Cursor). x.row ≡ c.row) (leb c.column.0 1) (λ t. refl) (λ t. refl)

module _ (d : Captions) (h : Sound d) where
  abbrev m : Mode
  m = d.mode

  abbrev r : Ranged m
  r = h.ranged

  abbrev c : Cursor
  c = cursor_of m

  placed : Placed (cursor_of d.mode)
  placed = cursor_of_placed m r

  pub bs_of_sound : 1 ≤ d.mode.style → Sound (bs_of d)
  unfolding bs_of
  bs_of_sound live =
      let p = back_of_keeps_placed c placed in
      let at = spot m (back_of c) r live p (back_of_row c) in
      pick_cases Sound (leb c.column.0 1) (λ t. h)
      (λ t. record {
        ranged = with_cursor_ranged m r (back_of c) p;
        fits = with_cursor_fits m (back_of c) (back_of_row c) h.fits;
        cells = with_cursor_kept m (back_of c) _ (back_of_row c)
            (empty_cell_of_each (memory_of m) (back_of c).row (back_of c).column at.cell at.even (kept_empty at.cell) h.cells);
      })

  pub der_of_sound : 1 ≤ d.mode.style → Sound (der_of d)
  unfolding der_of
  der_of_sound live =
      let at = spot m c r live placed refl in
      record {
        ranged = r;
        fits = h.fits;
        cells = empty_from_of_each (memory_of m) c.row c.column at.cell at.even placed.place.column_high kept_empty h.cells;
      }

  pub tabbed_of_sound : (n : ℕ) → Sound (tabbed_of d n)
  unfolding tabbed_of tab_of
  tabbed_of_sound n = turned_of_sound d h (tab_of c n) (tab_of_keeps_placed c placed n) refl

  -- While the mark is set the window moves to any base row where it fits.

  module _ (to : Cursor) (p : Placed to) (set : d.mode.mark ≡ 1) (fits : d.mode.depth ≤ to.row.0) where
    pub moved_of_sound : Sound (moved_of d to)
    unfolding moved_of
    moved_of_sound = record {
      ranged = roll_ranged m r to p;
      fits = λ e. fits;
      cells = move_of_kept m.roll.row to.row m.depth (h.fits set) r.roll.place.row_high fits p.place.row_high (kept_allowed h.cells);
    }

    -- request 4: "No row is lost then."
    pub moved_of_loses_no_row : (i j : ℕ) → i < d.mode.depth → j < 64 → window_at (moved_of d to) i j ≡ window_at d i j
    unfolding moved_of
    moved_of_loses_no_row i j near small =
        let size = h.cells.size in
        let whole : Holds 0 d.cells = record { early = omega arith; whole = omega arith } in
        move_of_loses_no_row d.cells 0 whole m.roll.row to.row m.depth (h.fits set) r.roll.place.row_high fits p.place.row_high i j near small

    -- to the same base row nothing moves: what is displayed lies in the window already
    pub moved_of_same : d.mode.roll.row.0 ≡ to.row.0 → moved_of d to ≡ captions (cursors d.mode to d.mode.pop d.mode.paint) d.cells
    unfolding moved_of
    moved_of_same same =
        ap (λ (l : List ℕ). captions (cursors m to m.pop m.paint) l)
        (move_of_same m.roll.row to.row m.depth same (h.fits set) r.roll.place.row_high set h.cells)

  -- A preamble: in roll-up the mark is set, and the window fits at the row to which it is lowered.

  module _ (to : Cursor) (p : Placed to) where
    lowered_placed : Placed (lowered_of to d.mode.depth)
    lowered_placed =
        let deep = r.style.depth_high in
        lowered_of_placed to m.depth (omega arith) p

    pub preamble_of_sound : Sound (preamble_of d to)
    unfolding preamble_of turned_of with_cursor
    preamble_of_sound =
        pick_cases Sound (eqb m.style 1)
        (λ t. moved_of_sound (lowered_of to m.depth) lowered_placed (r.style.rolls (eqb-true m.style 1 t)) (lowered_of_fits to m.depth))
        (λ t. record { ranged = with_cursor_ranged m r to p; fits = rw t h.fits; cells = rw t h.cells })

    pub preamble_of_loses_no_row : d.mode.style ≡ roll_up → (i j : ℕ) → i < d.mode.depth → j < 64 → window_at (preamble_of d to) i j ≡ window_at d i j
    unfolding preamble_of
    preamble_of_loses_no_row rolls i j near small =
        rw (eq-eqb m.style 1 rolls)
        (moved_of_loses_no_row (lowered_of to m.depth) lowered_placed (r.style.rolls rolls) (lowered_of_fits to m.depth) i j near small)
