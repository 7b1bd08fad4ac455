-- What holds of each cell while a window stands, as facts that proofs use: allowed, and in the window while the mark is set.
-- Paper 01, "What the codes do": "While the mark is set, non-empty displayed cells lie in the window, four rows at most."
-- Assumes nothing.
use Rattle.std.specs.Prelude.{ℕ, ◌*◌, ◌≤◌, ◌<◌, ◌≡◌, true}
use Rattle.cell.specs.declared.Row.{Row}
use Rattle.cell.specs.Code.{is_cell}
use Rattle.window.specs.Window.{above_of}

-- the cell is allowed, and while the mark is set it is empty above the window and below it
pub record Kept (mark : ℕ) (base : Row) (depth k code pen : ℕ) : Type 0 where
  pub allowed : is_cell code pen ≡ true
  pub above : mark ≡ 1 → k < above_of base depth * 32 → code ≡ 0
  pub below : mark ≡ 1 → base.0 * 32 ≤ k → k < 480 → code ≡ 0
