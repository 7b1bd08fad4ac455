-- What is done to one memory of 960 bytes inside the lent cells, from place `memory` on: cells and rows written, emptied, counted; the two memories exchanged.
-- Paper 01, "What the codes do" and "Record, log, tray" (row by row, two bytes a cell, code then pen); 47 CFR 15.119 (f).
-- Assumes nothing.
use Rattle.std.specs.Prelude.{ℕ, zero, suc, ◌+◌, ◌-◌, ◌*◌, ◌≤◌, Bool, List, [], ◌∷◌, eqb, length, get_or, replicate}
use Rattle.facts.specs.Choice.{pick}
use Rattle.facts.specs.Every.{same_of, blank_of}
use Rattle.facts.specs.Over.{over, exchange_of}
use Rattle.cell.specs.declared.Row.{Row}
use Rattle.cell.specs.declared.Column.{Column}
use Rattle.cell.specs.Place.{row_at, cell_at}

-- "64–1023 displayed, 1024–1983 non-displayed": where each starts in the cells, which are bytes 64 to 1983
abbrev pub displayed : ℕ
displayed = 0

abbrev pub non_displayed : ℕ
non_displayed = 960

-- a whole memory lies in the cells from place `memory` on
pub record Holds (memory : ℕ) (d : List ℕ) : Type 0 where
  pub early : memory ≤ 1920
  pub whole : memory + 960 ≤ length d

-- "the cell gets code and pen"
unfoldable pub write_cell_of : List ℕ → ℕ → Row → Column → ℕ → ℕ → List ℕ
write_cell_of d memory row column code pen = over d (cell_at memory row column) (code ∷ pen ∷ [])

-- "that cell is emptied": an empty cell is 0, 0
unfoldable pub empty_cell_of : List ℕ → ℕ → Row → Column → List ℕ
empty_cell_of d memory row column = over d (cell_at memory row column) (0 ∷ 0 ∷ [])

-- "the cursor's cell to column 32 of its row"
unfoldable pub empty_from_of : List ℕ → ℕ → Row → Column → List ℕ
empty_from_of d memory row column = over d (cell_at memory row column) (replicate (66 - column.0 * 2) 0)

-- n rows below the first `above` rows
unfoldable pub empty_rows_of : List ℕ → ℕ → ℕ → ℕ → List ℕ
empty_rows_of d memory above n = over d (memory + above * 64) (replicate (n * 64) 0)

-- "EDM, ENM empty their memory"
unfoldable pub empty_all_of : List ℕ → ℕ → List ℕ
empty_all_of d memory = over d memory (replicate 960 0)

-- "exchanges the memories"
unfoldable pub exchanged_of : List ℕ → List ℕ
exchanged_of d = exchange_of d non_displayed

-- a cell counts as non-empty by its code
abbrev pub filled_of : ℕ → ℕ
filled_of code = pick (eqb code 0) 0 1

-- of the first n cells from place `at` on, how many are not empty (the last one outermost, as a loop comes to it)
abbrev pub filled_from : List ℕ → ℕ → ℕ → ℕ
filled_from d at zero = 0
filled_from d at (suc n) = filled_from d at n + filled_of (get_or d (at + n * 2) 0)

-- "the number of its non-empty displayed cells"
unfoldable pub count_row_of : List ℕ → ℕ → Row → ℕ
count_row_of d memory row = filled_from d (row_at memory row) 32

-- "not all empty", turned round
unfoldable pub is_empty_of : List ℕ → ℕ → Bool
is_empty_of d memory = blank_of d memory 960

-- two displayed memories "equal in every byte"
unfoldable pub same_screen_of : List ℕ → List ℕ → Bool
same_screen_of a b = same_of a b 960
