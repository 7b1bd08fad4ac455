-- The desk as one record of 1,984 bytes: which byte holds what, written and read.
-- Paper 01, "Record, log, tray", first paragraph, and the last sentence of the second; paper 02, request 2 (the counts in bytes 19 to 48).
-- Assumes nothing.
use Rattle.std.specs.Prelude.{ℕ, zero, suc, ◌+◌, ◌*◌, ◌/◌, ◌%◌, ◌≡◌, Bool, List, [], ◌∷◌, ◌++◌, get_or, drop, replicate}
use Rattle.facts.specs.Every.{same_of}
use Rattle.facts.specs.Over.{part}
use Rattle.cell.specs.declared.Row.{Row}
use Rattle.cell.specs.declared.Cursor.{Cursor}
use Rattle.cell.specs.Place.{row_number, column_number}
use Rattle.cell.specs.Cursor.{cursor}
use Rattle.page.specs.Page.{displayed, non_displayed, filled_from, count_row_of}
use Rattle.state.specs.declared.State.{State}
use Rattle.state.specs.State.{Desk, desk, mode, state}

-- bytes 0 to 18, in the paper's order
abbrev pub fields_of : State → List ℕ
fields_of s =
    -- "0–1 standing acts, low byte first; 2 selected channel; 3 stream channel (0 none)"
    s.acts % 256 ∷ s.acts / 256 ∷ s.selected ∷ s.stream
    -- "4 style ..; 5 Text and 6 mark ..; 7 depth"
    ∷ s.mode.style ∷ s.mode.text ∷ s.mode.mark ∷ s.mode.depth
    -- "8–10 base row, column, pen"
    ∷ s.mode.roll.row.0 ∷ s.mode.roll.column.0 ∷ s.mode.roll.pen
    -- "11–13 pop-on row, column, pen"
    ∷ s.mode.pop.row.0 ∷ s.mode.pop.column.0 ∷ s.mode.pop.pen
    -- "14–16 paint-on"
    ∷ s.mode.paint.row.0 ∷ s.mode.paint.column.0 ∷ s.mode.paint.pen
    -- "17–18 expected a, b with the channel still in a (0, 0 none)"
    ∷ s.first ∷ s.second ∷ []

-- "how many cells of each row are filled": of rows 1 to n of a memory
abbrev pub counts_in : List ℕ → ℕ → ℕ → List ℕ
counts_in cells memory zero = []
counts_in cells memory (suc n) = counts_in cells memory n ++ (count_row_of cells memory (row_number (suc n)) ∷ [])

-- request 2: "Keep the counts in the record, bytes 19 to 33 for the displayed rows, 34 to 48 for the others"
unfoldable pub counts_of : List ℕ → List ℕ
counts_of cells = counts_in cells displayed 15 ++ counts_in cells non_displayed 15

-- bytes 0 to 63: the fields, the counts, and what is left of "19–63 zero"
unfoldable pub head_of : Desk → List ℕ
head_of d = fields_of d.state ++ (counts_of d.cells ++ replicate 15 0)

-- "row, column, pen": three bytes from place `at` on
abbrev pub cursor_at : List ℕ → ℕ → Cursor
cursor_at bs at = cursor (row_number (get_or bs at 0)) (column_number (get_or bs (at + 1) 0)) (get_or bs (at + 2) 0)

-- "low byte first"
abbrev pub low_first_of : ℕ → ℕ → ℕ
low_first_of low high = low + high * 256

-- the same bytes read
unfoldable pub state_of : List ℕ → State
state_of bs =
    state (low_first_of (get_or bs 0 0) (get_or bs 1 0)) (get_or bs 2 0) (get_or bs 3 0) (get_or bs 17 0) (get_or bs 18 0)
    (mode (get_or bs 4 0) (get_or bs 5 0) (get_or bs 6 0) (get_or bs 7 0) (cursor_at bs 8) (cursor_at bs 11) (cursor_at bs 14))

-- "64–1023 displayed, 1024–1983 non-displayed": the cells of a desk as they are
abbrev pub record_of : Desk → List ℕ
record_of d = head_of d ++ d.cells

-- and the desk of a record
abbrev pub read_of : List ℕ → Desk
read_of bs = desk (state_of bs) (drop 64 bs)

-- the counts of a record are right: they are those of its cells
unfoldable pub are_counted : List ℕ → Bool
are_counted bs = same_of (part bs 19 30) (counts_of (drop 64 bs)) 30

-- and row by row: the byte of row k, of the thirty of both memories from 0 on, is how many of its cells are filled
abbrev pub Counted : List ℕ → ℕ → Type 0
Counted bs k = get_or bs (19 + k) 0 ≡ filled_from bs (64 + k * 64) 32

-- the count of a displayed row: byte 19 is row 1's
abbrev pub count_at : List ℕ → Row → ℕ
count_at bs row = get_or bs (18 + row.0) 0

-- "two bytes a cell, code then pen": cell k of those that begin at byte `at`
abbrev pub code_at : List ℕ → ℕ → ℕ → ℕ
code_at bs at k = get_or bs (at + k * 2) 0

abbrev pub pen_at : List ℕ → ℕ → ℕ → ℕ
pen_at bs at k = get_or bs (at + k * 2 + 1) 0

-- "The fresh record is one fixed thing: zeros but for channel 1, rows 15, columns 1."
abbrev pub fresh_record : List ℕ
fresh_record = 0 ∷ 0 ∷ 1 ∷ 0 ∷ 0 ∷ 0 ∷ 0 ∷ 0 ∷ 15 ∷ 1 ∷ 0 ∷ 15 ∷ 1 ∷ 0 ∷ 15 ∷ 1 ∷ replicate 1968 0
