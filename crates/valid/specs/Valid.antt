-- Which records are valid: the paper's sentence, a line for each clause.
-- Paper 01, "Record, log, tray": the line "Valid", with the ranges of the first paragraph; paper 02, requests 2 and 4; docs/DECISIONS.md, "Cursors" and "Validity".
-- Assumes nothing.
use Rattle.std.specs.Prelude.{ℕ, ◌+◌, ◌/◌, Bool, ◌&&◌, ◌||◌, List, eqb, leb, ltb, length}
use Rattle.facts.specs.Choice.{implies}
use Rattle.facts.specs.Every.{every, blank_of}
use Rattle.cell.specs.declared.Row.{Row}
use Rattle.cell.specs.declared.Cursor.{Cursor}
use Rattle.cell.specs.Pen.{is_pen}
use Rattle.cell.specs.Code.{is_cell}
use Rattle.codes.specs.Assigned.{is_expected}
use Rattle.window.specs.Window.{above_of}
use Rattle.state.specs.declared.Mode.{Mode}
use Rattle.state.specs.declared.State.{State}
use Rattle.state.specs.Style.{roll_up, paint_on}
use Rattle.record.specs.Layout.{state_of, are_counted, code_at, pen_at}

-- n is one of low to high
abbrev pub is_within : ℕ → ℕ → ℕ → Bool
is_within low high n = leb low n && leb n high

-- "rows are 1 to 15 and columns 1 to 32"; "colour up to 6, bits 6 and 7 zero"
unfoldable pub is_cursor : Cursor → Bool
is_cursor c = is_within 1 15 c.row.0 && is_within 1 32 c.column.0 && is_pen c.pen

-- what is asked of bytes 0 to 18
unfoldable pub is_valid_state : State → Bool
is_valid_state s =
    -- "acts up to 16,000"
    leb s.acts 16000
    -- "fields in those ranges": "2 selected channel; 3 stream channel (0 none)"
    && is_within 1 2 s.selected
    && leb s.stream 2
    -- "4 style (0 none, 1 roll-up, 2 pop-on, 3 paint-on); 5 Text and 6 mark (each 0 or 1); 7 depth (0 or 2–4)"
    && leb s.mode.style 3
    && leb s.mode.text 1
    && leb s.mode.mark 1
    && (eqb s.mode.depth 0 || is_within 2 4 s.mode.depth)
    -- "8–10 base row, column, pen; 11–13 pop-on row, column, pen; 14–16 paint-on"
    && is_cursor s.mode.roll
    && is_cursor s.mode.pop
    && is_cursor s.mode.paint
    -- "expected none or assigned"
    && is_expected s.first s.second
    -- "mark set requires depth 2–4"
    && implies (eqb s.mode.mark 1) (is_within 2 4 s.mode.depth)
    -- request 4: "A valid record with the mark set has its base row no smaller than its depth."
    && implies (eqb s.mode.mark 1) (leb s.mode.depth s.mode.roll.row.0)
    -- "roll-up style requires the mark, paint-on style that it is clear"
    && implies (eqb s.mode.style roll_up) (eqb s.mode.mark 1)
    && implies (eqb s.mode.style paint_on) (eqb s.mode.mark 0)

-- "cell codes empty, 20h–7Fh, 80h, 90h–9Fh", pens as those of cursors; "code 0 with another pen is invalid"
abbrev pub is_cell_at : List ℕ → ℕ → ℕ → Bool
is_cell_at bs at k = is_cell (code_at bs at k) (pen_at bs at k)

-- "The window is the base row and the n − 1 rows above it"
abbrev pub is_in_window : Row → ℕ → ℕ → Bool
is_in_window base depth row = ltb (above_of base depth) row && leb row base.0

-- displayed cell k, which stands in row k / 32 + 1, is empty or in the window
abbrev pub is_windowed : Mode → List ℕ → ℕ → Bool
is_windowed m bs k = eqb (code_at bs 64 k) 0 || is_in_window m.roll.row m.depth (k / 32 + 1)

-- "Valid: .. No other check."
unfoldable pub is_valid : List ℕ → Bool
is_valid bs =
    -- "one record of 1,984 bytes"
    eqb (length bs) 1984
    && is_valid_state (state_of bs)
    -- request 2: "A record is valid only if they are [right]": the counts, bytes 19 to 48
    && are_counted bs
    -- what is left of "19–63 zero"
    && blank_of bs 49 15
    -- "64–1023 displayed, 1024–1983 non-displayed, row by row": 960 cells
    && every (is_cell_at bs 64) 960
    -- "mark set requires .. cells in the window only"
    && implies (eqb (state_of bs).mode.mark 1) (every (is_windowed (state_of bs).mode bs) 480)
