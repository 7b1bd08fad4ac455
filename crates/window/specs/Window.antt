-- The roll-up window: which rows it has, and how it rolls, moves and is cut out of a memory.
-- Paper 01, "What the codes do": RU, the window, CR and a preamble in roll-up; paper 02, request 4; 47 CFR 15.119 (f)(1).
-- Assumes nothing.
use Rattle.std.specs.Prelude.{ℕ, ◌+◌, ◌-◌, ◌*◌, max, List}
use Rattle.facts.specs.Over.{over, part}
use Rattle.cell.specs.declared.Row.{Row}
use Rattle.cell.specs.declared.Cursor.{Cursor}
use Rattle.cell.specs.Place.{row_number}
use Rattle.cell.specs.Cursor.{cursor}
use Rattle.page.specs.Page.{empty_rows_of, empty_all_of}

-- "The window is the base row and the n − 1 rows above it": so many rows lie above it
abbrev pub above_of : Row → ℕ → ℕ
above_of base depth = base.0 - depth

-- request 4: "a base row above the depth's fit is lowered to the row equal to the depth"; column and pen stay
unfoldable pub lowered_of : Cursor → ℕ → Cursor
lowered_of c depth = cursor (row_number (max c.row.0 depth)) c.column c.pen

-- "each window row takes the row below, the base row is emptied"
unfoldable pub roll_of : List ℕ → ℕ → Row → ℕ → List ℕ
roll_of d memory base depth =
    let top = memory + above_of base depth * 64 in
    empty_rows_of (over d top (part d (top + 64) ((base.0 - 1 - above_of base depth) * 64))) memory (base.0 - 1) 1

-- "displayed rows outside the window emptied"
unfoldable pub empty_outside_of : List ℕ → ℕ → Row → ℕ → List ℕ
empty_outside_of d memory base depth = empty_rows_of (empty_rows_of d memory 0 (above_of base depth)) memory base.0 (15 - base.0)

-- "the window moves to the new base row, rows keeping their distance from it; .. all else is empty"; request 4: "No row is lost then."
unfoldable pub move_of : List ℕ → ℕ → Row → Row → ℕ → List ℕ
move_of d memory old new depth =
    over (empty_all_of d memory) (memory + above_of new depth * 64) (part d (memory + above_of old depth * 64) (depth * 64))
