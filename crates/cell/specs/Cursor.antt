-- The cursor's moves, each by value.
-- Paper 01, "What the codes do" (write, BS) and "Codes" (tab, preamble); 47 CFR 15.119 (e)(1) and (f).
-- Assumes nothing.
use Rattle.std.specs.Prelude.{ℕ, ◌+◌, ◌-◌, ◌*◌, ◌/◌, ◌%◌, min, ◌≡◌, true, leb, ltb}
use Rattle.facts.specs.Choice.{pick}
use Rattle.cell.specs.declared.Row.{Row}
use Rattle.cell.specs.declared.Column.{Column}
use Rattle.cell.specs.declared.Cursor.{Cursor}
use Rattle.cell.specs.Place.{OnScreen, column_number}
use Rattle.cell.specs.Pen.{is_pen}

abbrev pub cursor : Row → Column → ℕ → Cursor
cursor row column pen = record { row = row; column = column; pen = pen }

abbrev pub at_column : Cursor → ℕ → Cursor
at_column c n = cursor c.row (column_number n) c.pen

abbrev pub with_pen : Cursor → ℕ → Cursor
with_pen c pen = cursor c.row c.column pen

-- "the column goes up by one, but not past 32"
unfoldable pub after_write_of : Cursor → Cursor
after_write_of c = at_column c (min (c.column.0 + 1) 32)

-- "at column 1 nothing; else one left"
unfoldable pub back_of : Cursor → Cursor
back_of c = pick (leb c.column.0 1) c (at_column c (c.column.0 - 1))

-- "1 to 3 columns right, stopping at 32"
unfoldable pub tab_of : Cursor → ℕ → Cursor
tab_of c n = at_column c (min (c.column.0 + n) 32)

-- "column 1 .. From 10h: .. indent 4 times half the excess over 10h (the half rounded down) .. column one more than the indent"
unfoldable pub preamble_column_of : ℕ → Column
preamble_column_of b = column_number (pick (ltb (b % 32) 0x10) 1 ((b % 32 - 0x10) / 2 * 4 + 1))

-- a cursor as a valid record has it: on the screen, with a pen that is allowed
pub record Placed (c : Cursor) : Type 0 where
  pub place : OnScreen c.row c.column
  pub pen : is_pen c.pen ≡ true
