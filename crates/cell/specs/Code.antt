-- What a cell may hold.
-- Paper 01, "Record, log, tray": the line "Valid".
-- Assumes nothing.
use Rattle.std.specs.Prelude.{ℕ, Bool, ◌&&◌, ◌||◌, eqb, leb}
use Rattle.facts.specs.Choice.{implies}
use Rattle.cell.specs.Pen.{is_pen}

-- "cell codes empty, 20h–7Fh, 80h, 90h–9Fh"
unfoldable pub is_code : ℕ → Bool
is_code code = eqb code 0 || (leb 0x20 code && leb code 0x7f) || eqb code 0x80 || (leb 0x90 code && leb code 0x9f)

-- "An empty cell is 0, 0; code 0 with another pen is invalid."
unfoldable pub is_cell : ℕ → ℕ → Bool
is_cell code pen = is_code code && is_pen pen && implies (eqb code 0) (eqb pen 0)
