-- The tape of a screen on a channel: the raw bytes of its pairs.
-- Paper 02, request 1: "RCL, ENM, preambles, tabs, characters, EOC, every control pair twice."; Paper 01, "Record, log, tray": "row by row, two bytes a cell".
-- Assumes nothing.
use Rattle.std.specs.Prelude.{ℕ, zero, suc, ◌+◌, ◌-◌, ◌*◌, List, [], ◌++◌, eqb, ltb}
use Rattle.facts.specs.Choice.{pick}
use Rattle.record.specs.Layout.{code_at}
use Rattle.lines.specs.Span.{lead_of, end_of}
use Rattle.tape.specs.declared.Item.{Item}
use Rattle.tape.specs.Item.{rcl_item, enm_item, eoc_item, next_item_of, bytes_of, widest}
use Rattle.tape.specs.Preamble.{preamble_item_of}
use Rattle.tape.specs.Writable.{row_pen_of}

-- the code of cell k of a row of `end` cells; behind them stands 80h, which is neither empty nor a character: the next row is no part of this one
unfoldable pub code_before : List ℕ → ℕ → ℕ → ℕ → ℕ
code_before memory at end k = pick (ltb k end) (code_at memory at k) 0x80

-- what comes at cell k
abbrev pub item_at : List ℕ → ℕ → ℕ → ℕ → Item
item_at memory at end k = next_item_of (code_before memory at end k) (code_before memory at end (k + 1)) (code_before memory at end (k + 2))

-- the items from cell k up to `end`, so many at most
abbrev pub items_of : ℕ → List ℕ → ℕ → ℕ → ℕ → ℕ → List ℕ
items_of channel memory at end k zero = []
items_of channel memory at end k (suc most) =
    let i = item_at memory at end k in
    pick (ltb k end) (bytes_of channel i ++ items_of channel memory at end (k + i.columns) most) []

-- each leads on a column at least
unfoldable pub rest_of : ℕ → List ℕ → ℕ → ℕ → ℕ → List ℕ
rest_of channel memory at end k = items_of channel memory at end k (end - k)

-- a row, counted from 0, with a non-empty cell: its preamble, and its cells from there up to the last non-empty one
unfoldable pub filled_row_of : ℕ → List ℕ → ℕ → List ℕ
filled_row_of channel memory row =
    let at = row * 64 in
    let i = preamble_item_of row (row_pen_of memory at) (lead_of memory at 32) in
    bytes_of channel i ++ rest_of channel memory at (end_of memory at 32) i.columns

-- an empty row needs nothing
unfoldable pub row_tape_of : ℕ → List ℕ → ℕ → List ℕ
row_tape_of channel memory row = pick (eqb (end_of memory (row * 64) 32) 0) [] (filled_row_of channel memory row)

-- the first n rows, from the top
unfoldable pub rows_tape_of : ℕ → List ℕ → ℕ → List ℕ
rows_tape_of channel memory zero = []
rows_tape_of channel memory (suc n) = rows_tape_of channel memory n ++ row_tape_of channel memory n

-- "the pairs that load": all but EOC
unfoldable pub loading_of : List ℕ → ℕ → List ℕ
loading_of memory channel = (bytes_of channel rcl_item ++ bytes_of channel enm_item) ++ rows_tape_of channel memory 15

-- "and show it pop-on"
unfoldable pub tape_of : List ℕ → ℕ → List ℕ
tape_of memory channel = loading_of memory channel ++ bytes_of channel eoc_item

-- the most bytes of a tape: RCL, ENM and EOC, and fifteen rows of a preamble and 32 cells
abbrev pub longest : ℕ
longest = (3 + 15 * 33) * widest
