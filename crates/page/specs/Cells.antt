-- What holds of each cell of the two memories, as facts that proofs use.
-- Paper 01, "Record, log, tray" (the line "Valid"): "cell codes empty, 20h–7Fh, 80h, 90h–9Fh".
-- Assumes nothing.
use Rattle.std.specs.Prelude.{ℕ, ◌+◌, ◌*◌, ◌<◌, ◌≡◌, true, List, length, get_or}
use Rattle.cell.specs.Code.{is_cell}

-- 960 cells, the displayed ones first; of each, by its number, code and pen, P holds
pub record Each (P : ℕ → ℕ → ℕ → Type 0) (d : List ℕ) : Type 0 where
  pub size : length d ≡ 1920
  pub at : (k : ℕ) → k < 960 → P k (get_or d (k * 2) 0) (get_or d (k * 2 + 1) 0)

-- the cell is allowed, wherever it stands
abbrev pub Allowed : ℕ → ℕ → ℕ → Type 0
Allowed k code pen = is_cell code pen ≡ true
