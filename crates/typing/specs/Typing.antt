-- What is written at the style's cursor: characters and attribute spaces.
-- Paper 01, "What the codes do": write and FON; "Codes": mid-row; 47 CFR 15.119 (f) and (h).
-- Assumes nothing.
use Rattle.std.specs.Prelude.{ℕ, List, Option, Some, None}
use Rattle.cell.specs.declared.Cursor.{Cursor}
use Rattle.cell.specs.Pen.{mid_row_pen_of, flash_pen_of}
use Rattle.cell.specs.Cursor.{with_pen, after_write_of}
use Rattle.page.specs.Page.{write_cell_of}
use Rattle.state.specs.State.{Captions, captions}
use Rattle.state.specs.Style.{cursor_of, with_cursor, memory_of}

-- "Write: the cell gets code and pen; the column goes up by one, but not past 32."
unfoldable pub write_of : Captions → ℕ → Captions
write_of d code =
    let c = cursor_of d.mode in
    captions (with_cursor d.mode (after_write_of c)) (write_cell_of d.cells (memory_of d.mode) c.row c.column code c.pen)

-- a code written if there is any
abbrev pub write_any_of : Captions → Option ℕ → Captions
write_any_of d None = d
write_any_of d (Some code) = write_of d code

-- the same in two parts, at a cursor that is in hand: where the cursor goes, and what the cells of its memory become
abbrev pub passed_of : Cursor → Option ℕ → Cursor
passed_of c None = c
passed_of c (Some code) = after_write_of c

abbrev pub put_of : List ℕ → ℕ → Cursor → Option ℕ → List ℕ
put_of d memory c None = d
put_of d memory c (Some code) = write_cell_of d memory c.row c.column code c.pen

-- the style's cursor is another; the cells stay
unfoldable pub turned_of : Captions → Cursor → Captions
turned_of d c = captions (with_cursor d.mode c) d.cells

-- "The pen changes, then an attribute space (cell code 80h) is written with the new pen."
unfoldable pub attribute_of : Captions → ℕ → Captions
attribute_of d pen = write_of (turned_of d (with_pen (cursor_of d.mode) pen)) 0x80

-- "11h 20h to 2Fh, mid-row."
unfoldable pub mid_row_of : Captions → ℕ → Captions
mid_row_of d b = attribute_of d (mid_row_pen_of (cursor_of d.mode).pen b)

-- "FON: flash on in the pen, then an attribute space is written."
unfoldable pub fon_of : Captions → Captions
fon_of d = attribute_of d (flash_pen_of (cursor_of d.mode).pen)
