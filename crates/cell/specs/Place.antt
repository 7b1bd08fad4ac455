-- Rows and columns, and where a cell stands in a memory.
-- Paper 01, "The desk and its edges" (rows and columns) and "Record, log, tray" (row by row, two bytes a cell); 47 CFR 15.119 (d)(1).
-- Assumes nothing.
use Rattle.std.specs.Prelude.{ℕ, ◌+◌, ◌-◌, ◌*◌, ◌≤◌}
use Rattle.cell.specs.declared.Row.{Row}
use Rattle.cell.specs.declared.Column.{Column}

-- "Caption rows are 1 to 15 and columns 1 to 32, counted apart."
pub record OnScreen (row : Row) (column : Column) : Type 0 where
  pub row_low : 1 ≤ row.0
  pub row_high : row.0 ≤ 15
  pub column_low : 1 ≤ column.0
  pub column_high : column.0 ≤ 32

abbrev pub row_number : ℕ → Row
row_number n = record { 0 = n }

abbrev pub column_number : ℕ → Column
column_number n = record { 0 = n }

-- "row by row, two bytes a cell": where row r of the memory that starts at `memory` begins
abbrev pub row_at : ℕ → Row → ℕ
row_at memory row = memory + (row.0 - 1) * 64

-- and where the cell in one of its columns does
abbrev pub cell_at : ℕ → Row → Column → ℕ
cell_at memory row column = row_at memory row + (column.0 - 1) * 2
