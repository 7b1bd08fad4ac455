-- The calls that only look at a lent record: how full a row is, and the displayed half.
-- Paper 01, "Record, log, tray": the last paragraph; "Numbers given back": "Order: 1, 6 for the desk, 2".
-- Assumes nothing.
use Rattle.std.specs.Prelude.{ℕ, Bool, ◌&&◌, List, [], eqb, leb, length, drop}
use Rattle.facts.specs.Choice.{pick}
use Rattle.facts.specs.Over.{part}
use Rattle.cell.specs.Place.{row_number}
use Rattle.page.specs.Page.{displayed, count_row_of}
use Rattle.valid.specs.Valid.{is_valid}
use Rattle.standing.specs.Calls.{Given, gives}

-- "row not 1–15"
abbrev pub is_row_number : ℕ → Bool
is_row_number row = leb 1 row && leb row 15

-- what is said of the record first: 1 for a wrong length, then 6
unfoldable pub look_of : List ℕ → Given → Given
look_of d next = pick (eqb (length d) 1984) (pick (is_valid d) next (gives 6 0)) (gives 1 0)

-- "Asked for a row, the desk gives the number of its non-empty displayed cells."
unfoldable pub row_of : List ℕ → ℕ → Given
row_of d row = look_of d (pick (is_row_number row) (gives 0 (count_row_of (drop 64 d) displayed (row_number row))) (gives 2 0))

-- "the view returns bytes 64 to 1023 of the lent record, or an empty part on refusal"
unfoldable pub view_of : List ℕ → List ℕ
view_of d = pick (is_valid d) (part d 64 960) []

-- the number of the view's refusal, had from a call of its own
unfoldable pub view_number_of : List ℕ → Given
view_number_of d = look_of d (gives 0 0)
