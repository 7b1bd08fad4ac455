-- Roll-up captions stay sound. Assumes nothing.
use mathlib.Core.Path.{◌≡◌, refl}
use mathlib.Core.Bool.{false}
use Prim.Native.Nat.{ℕ, ◌≤◌}
use native.Mathlib.Omega.{arith}
use lib.Dec.{eqb}
use borrow.Author.Tests.{eqb-true, eqb-false}
use Rattle.facts.proofs.Choice.{pick_cases}
use Rattle.cell.specs.Place.{row_number}
use Rattle.cell.specs.Cursor.{Placed}
use Rattle.page.proofs.Each.{empty_all_of_each}
use Rattle.window.specs.Window.{lowered_of}
use Rattle.window.proofs.LawsOfRows.{lowered_of_fits, lowered_of_not_up, lowered_of_placed}
use Rattle.window.proofs.LawsOfCells.{kept_empty, kept_allowed, kept_free, roll_of_kept, empty_outside_of_kept}
use Rattle.state.specs.declared.Mode.{Mode}
use Rattle.state.specs.State.{Captions}
use Rattle.state.specs.Ranges.{Ranged, Sound}
use Rattle.state.proofs.Laws.{plain_placed, roll_ranged, styled_ranged}
use Rattle.placing.specs.Placing.{moved_of}
use Rattle.placing.proofs.Laws.{moved_of_sound}
use Rattle.rollup.specs.Rollup.{plain_in, opened_of, framed_of, ru_of, cr_of}

module _ (d : Captions) (h : Sound d) where
  abbrev m : Mode
  m = d.mode

  abbrev r : Ranged m
  r = h.ranged

  -- the base row that depth n asks for is on the screen, and with the mark set the window that stands fits there too
  pub deepened_placed : (n : ℕ) → n ≤ 4 → Placed (lowered_of d.mode.roll n)
  deepened_placed n high = lowered_of_placed m.roll n (omega arith) r.roll

  pub deepened_fits : (n : ℕ) → d.mode.mark ≡ 1 → d.mode.depth ≤ (lowered_of d.mode.roll n).row.0
  deepened_fits n set =
      let fits = h.fits set in
      let down = lowered_of_not_up m.roll n in
      omega arith

  -- a mark that is not clear is set
  pub marked : (eqb d.mode.mark 0 ≡ false) → d.mode.mark ≡ 1
  marked t =
      let some = eqb-false m.mark 0 t in
      let high = r.style.mark_high in
      omega arith

  pub opened_of_sound : (n : ℕ) → n ≤ 4 → Sound (opened_of d n)
  unfolding opened_of
  opened_of_sound n high =
      pick_cases Sound (eqb m.mark 0)
      (λ t.
      let clear = eqb-true m.mark 0 t in
      record {
        ranged = roll_ranged m r (plain_in (row_number 15)) (plain_placed (row_number 15) (omega arith) (omega arith));
        fits = λ e. omega arith;
        cells = empty_all_of_each 0 0 refl kept_empty (kept_free clear (kept_allowed h.cells));
      })
      (λ t. moved_of_sound d h (lowered_of m.roll n) (deepened_placed n high) (marked t) (deepened_fits n (marked t)))

  pub opened_of_fits : (n : ℕ) → n ≤ 4 → n ≤ (opened_of d n).mode.roll.row.0
  unfolding opened_of moved_of
  opened_of_fits n high = pick_cases (λ (x : Captions). n ≤ x.mode.roll.row.0) (eqb m.mark 0) (λ t. omega arith) (λ t. lowered_of_fits m.roll n)

  pub framed_of_sound : (n : ℕ) → 2 ≤ n → n ≤ 4 → n ≤ d.mode.roll.row.0 → Sound (framed_of d n)
  unfolding framed_of
  framed_of_sound n low high fits = record {
    ranged = styled_ranged m r 1 0 1 n (record {
      style_high = omega arith;
      text_high = omega arith;
      mark_high = omega arith;
      depth_high = high;
      depth_two = λ e. low;
      rolls = λ e. refl;
      paints = λ e. omega arith;
      deep = λ e. low;
    });
    fits = λ e. fits;
    cells = empty_outside_of_kept m.roll.row n r.roll.place.row_high
        (kept_allowed {mark = 0} {base = m.roll.row} {depth = n} (empty_all_of_each 960 480 refl kept_empty (kept_free refl (kept_allowed h.cells))));
  }

  pub cr_of_sound : Sound (cr_of d)
  unfolding cr_of
  cr_of_sound =
      pick_cases Sound (eqb m.style 1)
      (λ t.
      let deep : 2 ≤ m.depth = r.style.deep (r.style.rolls (eqb-true m.style 1 t)) in
      let low = r.roll.place.row_low in
      let high = r.roll.place.row_high in
      record {
        ranged = roll_ranged m r (plain_in m.roll.row) (plain_placed m.roll.row low high);
        fits = h.fits;
        cells = roll_of_kept m.roll.row m.depth low high (omega arith) h.cells;
      })
      (λ t. h)

pub ru_of_sound : (d : Captions) (n : ℕ) → Sound d → 2 ≤ n → n ≤ 4 → Sound (ru_of d n)
unfolding ru_of
ru_of_sound d n h low high = framed_of_sound (opened_of d n) (opened_of_sound d h n high) n low high (opened_of_fits d h n high)
