-- The test of a record as the code makes it: row by row, and what lies outside the window as bytes that are 0.
-- Paper 01, "Record, log, tray": the line "Valid"; paper 02, request 2.
-- Assumes nothing.
use Rattle.std.specs.Prelude.{ℕ, ◌+◌, ◌-◌, ◌*◌, Bool, ◌&&◌, List, eqb, get_or}
use Rattle.facts.specs.Choice.{implies}
use Rattle.facts.specs.Every.{every, blank_of}
use Rattle.cell.specs.declared.Row.{Row}
use Rattle.page.specs.Page.{filled_from}
use Rattle.window.specs.Window.{above_of}
use Rattle.record.specs.Layout.{state_of}
use Rattle.valid.specs.Valid.{is_valid_state, is_cell_at}

-- a row is 32 cells, from byte `at` on
unfoldable pub is_row : List ℕ → ℕ → Bool
is_row bs at = every (is_cell_at bs at) 32

-- and so many of them are filled
unfoldable pub is_counted : List ℕ → ℕ → ℕ → Bool
is_counted bs at count = is_row bs at && eqb count (filled_from bs at 32)

-- fifteen rows of each memory, each with its count
unfoldable pub are_rows : List ℕ → Bool
are_rows bs = every (λ r. is_counted bs (64 + r * 64) (get_or bs (19 + r) 0)) 30

-- with the mark set the displayed rows above the window and those below it are 0
unfoldable pub is_framed : List ℕ → ℕ → Row → ℕ → Bool
is_framed bs mark base depth =
    implies (eqb mark 1) (blank_of bs 64 (above_of base depth * 64) && blank_of bs (64 + base.0 * 64) ((15 - base.0) * 64))

-- the whole test of 1,984 bytes
unfoldable pub check_of : List ℕ → Bool
check_of bs =
    let m = (state_of bs).mode in
    is_valid_state (state_of bs) && blank_of bs 49 15 && are_rows bs && is_framed bs m.mark m.roll.row m.depth
