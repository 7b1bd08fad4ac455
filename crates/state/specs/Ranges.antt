-- The ranges of a mode, as facts that proofs use.
-- Paper 01, "Record, log, tray": the fields' ranges and the line "Valid".
-- Assumes nothing.
use Rattle.std.specs.Prelude.{ℕ, ◌≤◌, ◌≡◌}
use Rattle.cell.specs.Cursor.{Placed}
use Rattle.page.specs.Cells.{Each}
use Rattle.window.specs.Cells.{Kept}
use Rattle.state.specs.declared.Mode.{Mode}
use Rattle.state.specs.State.{Captions, Fits}
use Rattle.state.specs.Style.{roll_up, paint_on}

-- "mark set requires depth 2–4 ..; roll-up style requires the mark, paint-on style that it is clear"
pub record Styled (style text mark depth : ℕ) : Type 0 where
  pub style_high : style ≤ 3
  pub text_high : text ≤ 1
  pub mark_high : mark ≤ 1
  pub depth_high : depth ≤ 4
  pub depth_two : 1 ≤ depth → 2 ≤ depth
  pub rolls : style ≡ roll_up → mark ≡ 1
  pub paints : style ≡ paint_on → mark ≡ 0
  pub deep : mark ≡ 1 → 2 ≤ depth

pub record Ranged (m : Mode) : Type 0 where
  pub style : Styled m.style m.text m.mark m.depth
  pub roll : Placed m.roll
  pub pop : Placed m.pop
  pub paint : Placed m.paint

-- what every act asks and keeps: the mode in its ranges, and every cell allowed and, while the mark is set, in the window, which fits
pub record Sound (d : Captions) : Type 0 where
  pub ranged : Ranged d.mode
  pub fits : Fits d.mode
  pub cells : Each (Kept d.mode.mark d.mode.roll.row d.mode.depth) d.cells
