-- What RU does with a window that stands: where its base row comes to, that no row of it is lost, and when nothing moves. Assumes nothing.
use mathlib.Core.Path.{◌≡◌, refl, ap, ◌∙◌}
use mathlib.Core.Logic.{inl}
use Prim.Native.Nat.{ℕ, ◌+◌, ◌-◌, ◌*◌, ◌<◌, ◌≤◌}
use native.Mathlib.Omega.{arith}
use borrow.Author.Tests.{ne_eqb}
use Rattle.page.specs.Page.{Holds, non_displayed, empty_all_of}
use Rattle.page.proofs.Laws.{empty_all_of_outside, length-empty_all_of}
use Rattle.window.specs.Window.{lowered_of}
use Rattle.window.proofs.LawsOfRows.{lowered_of_fits, lowered_of_stays, empty_outside_of_keeps_window}
use Rattle.window.proofs.LawsOfCells.{kept_none}
use Rattle.state.specs.declared.Mode.{Mode}
use Rattle.state.specs.State.{Captions}
use Rattle.state.specs.Ranges.{Sound}
use Rattle.placing.specs.Placing.{moved_of, window_at}
use Rattle.placing.proofs.Laws.{moved_of_sound, moved_of_loses_no_row, moved_of_same}
use Rattle.rollup.specs.Rollup.{opened_of, framed_of, ru_of}
use Rattle.rollup.proofs.Laws.{deepened_placed, deepened_fits, opened_of_sound, opened_of_fits}

-- what lies in the new window stays
framed_of_keeps_window : (d : Captions) → Sound d → (n i j : ℕ) → n ≤ d.mode.roll.row.0 → i < n → j < 64 → window_at (framed_of d n) i j ≡ window_at d i j
unfolding framed_of
framed_of_keeps_window d h n i j fits near small =
    let base = d.mode.roll.row in
    let high = h.ranged.roll.place.row_high in
    let size = h.cells.size in
    let kept = empty_all_of d.cells non_displayed in
    let length_kept = length-empty_all_of d.cells non_displayed in
    let whole : Holds 0 kept = record { early = omega arith; whole = omega arith } in
    let k = 0 + (base.0 - 1 - i) * 64 + j in
    empty_outside_of_keeps_window kept 0 whole base n high k (omega arith) (omega arith)
    ∙ empty_all_of_outside d.cells non_displayed k (inl (omega arith))

module _ (d : Captions) (h : Sound d) (set : d.mode.mark ≡ 1) (n : ℕ) (high : n ≤ 4) where
  abbrev m : Mode
  m = d.mode

  opened_of_set : opened_of d n ≡ moved_of d (lowered_of d.mode.roll n)
  unfolding opened_of
  opened_of_set = rw (ne_eqb m.mark 0 (λ e. omega arith))

  -- request 4: "is lowered to the row equal to the depth .. when RU makes the window deeper"; column and pen stay
  pub ru_of_lowers : (ru_of d n).mode.roll ≡ lowered_of d.mode.roll n
  unfolding ru_of framed_of moved_of
  ru_of_lowers = ap (λ (x : Captions). x.mode.roll) opened_of_set

  -- "No row is lost then": every row of the old window that the new one has
  pub ru_of_loses_no_row : (i j : ℕ) → i < d.mode.depth → i < n → j < 64 → window_at (ru_of d n) i j ≡ window_at d i j
  unfolding ru_of
  ru_of_loses_no_row i j old new small =
      framed_of_keeps_window (opened_of d n) (opened_of_sound d h n high) n i j (opened_of_fits d h n high) new small
      ∙ ap (λ (x : Captions). window_at x i j) opened_of_set
      ∙ moved_of_loses_no_row d h (lowered_of m.roll n) (deepened_placed d h n high) set (deepened_fits d h n set) i j old small

  -- the rows that it has besides are empty
  pub ru_of_adds_empty_rows : (i j : ℕ) → d.mode.depth ≤ i → i < n → j < 64 → window_at (ru_of d n) i j ≡ 0
  unfolding ru_of moved_of
  ru_of_adds_empty_rows i j old new small =
      let to = lowered_of m.roll n in
      let fits = lowered_of_fits m.roll n in
      let placed = deepened_placed d h n high in
      let at = placed.place.row_high in
      let sound = moved_of_sound d h to placed set (deepened_fits d h n set) in
      framed_of_keeps_window (opened_of d n) (opened_of_sound d h n high) n i j (opened_of_fits d h n high) new small
      ∙ ap (λ (x : Captions). window_at x i j) opened_of_set
      ∙ kept_none (0 + (to.row.0 - 1 - i) * 64 + j) set sound.cells (omega arith) (inl (omega arith))

  -- where the window of depth n fits, deeper or not, nothing moves
  pub opened_of_stays : n ≤ d.mode.roll.row.0 → opened_of d n ≡ d
  opened_of_stays fits =
      opened_of_set ∙ ap (moved_of d) (lowered_of_stays m.roll n fits)
      ∙ moved_of_same d h m.roll h.ranged.roll set (h.fits set) refl
