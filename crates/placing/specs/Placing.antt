-- What puts the style's cursor elsewhere or empties cells at it: backspace, erasing, tabs and preambles.
-- Paper 01, "What the codes do": BS, DER and the preamble; "Codes": tab; paper 02, request 4; 47 CFR 15.119 (f) and (h).
-- Assumes nothing.
use Rattle.std.specs.Prelude.{ℕ, ◌+◌, ◌-◌, ◌*◌, eqb, leb, get_or}
use Rattle.facts.specs.Choice.{pick}
use Rattle.cell.specs.declared.Cursor.{Cursor}
use Rattle.cell.specs.Cursor.{back_of, tab_of}
use Rattle.page.specs.Page.{displayed, empty_cell_of, empty_from_of}
use Rattle.window.specs.Window.{lowered_of, move_of}
use Rattle.state.specs.State.{Captions, captions}
use Rattle.state.specs.Style.{roll_up, cursor_of, cursors, with_cursor, memory_of}
use Rattle.typing.specs.Typing.{turned_of}

-- "BS: at column 1 nothing; else one left, and that cell is emptied."
unfoldable pub bs_of : Captions → Captions
bs_of d =
    let c = back_of (cursor_of d.mode) in
    pick (leb (cursor_of d.mode).column.0 1) d
    (captions (with_cursor d.mode c) (empty_cell_of d.cells (memory_of d.mode) c.row c.column))

-- "DER empties the cursor's cell to column 32 of its row."
unfoldable pub der_of : Captions → Captions
der_of d =
    let c = cursor_of d.mode in
    captions d.mode (empty_from_of d.cells (memory_of d.mode) c.row c.column)

-- "tab: 1 to 3 columns right, stopping at 32. Cells skipped are kept."
unfoldable pub tabbed_of : Captions → ℕ → Captions
tabbed_of d n = turned_of d (tab_of (cursor_of d.mode) n)

-- "the window moves to the new base row, rows keeping their distance from it; .. all else is empty"
unfoldable pub moved_of : Captions → Cursor → Captions
moved_of d c =
    let m = d.mode in
    captions (cursors m c m.pop m.paint) (move_of d.cells displayed m.roll.row c.row m.depth)

-- a preamble sets row, column and pen of the style's cursor; "Preamble in roll-up: the window moves to the new base row",
-- and request 4: "a base row above the depth's fit is lowered to the row equal to the depth, at a preamble .., and the whole window moves with it"
unfoldable pub preamble_of : Captions → Cursor → Captions
preamble_of d c = pick (eqb d.mode.style roll_up) (moved_of d (lowered_of c d.mode.depth)) (turned_of d c)

-- byte j of the displayed row at distance i above the base row: what stands there before and after a move is the same
abbrev pub window_at : Captions → ℕ → ℕ → ℕ
window_at d i j = get_or d.cells (displayed + (d.mode.roll.row.0 - 1 - i) * 64 + j) 0
