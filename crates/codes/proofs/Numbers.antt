-- A code's numbers tested: where the test passes, the code is proper. Assumes nothing.
use mathlib.Core.Path.{◌≡◌}
use mathlib.Core.Bool.{Bool, true, ◌&&◌}
use Prim.Native.Nat.{ℕ, ◌≤◌}
use borrow.Author.Tests.{leb-true}
use lib.Dec.{leb}
use Rattle.facts.proofs.Choice.{and_left, and_right}
use Rattle.cell.specs.declared.Row.{Row}
use Rattle.cell.specs.declared.Column.{Column}
use Rattle.cell.specs.Place.{OnScreen}
use Rattle.cell.specs.Pen.{is_pen}
use Rattle.cell.specs.Code.{is_code}
use Rattle.codes.specs.declared.Code.{Code}
use Rattle.codes.specs.declared.Code.TheVariants.{Unassigned, MidRow, Special, Tab, Preamble, Rcl, Bs, Der, Ru, Fon, Rdc, Tr, Rtd, Edm, Cr, Enm, Eoc}
use Rattle.codes.specs.Proper.{Proper}

abbrev within : ℕ → ℕ → ℕ → Bool
within low n high = leb low n && leb n high

within_facts : (low n high : ℕ) → within low n high ≡ true → (low ≤ n) × (n ≤ high)
within_facts low n high e = (leb-true low n (and_left (leb low n) (leb n high) e), leb-true n high (and_right (leb low n) (leb n high) e))

abbrev is_on_screen : Row → Column → Bool
is_on_screen row column = within 1 row.0 15 && within 1 column.0 32

on_screen_of : (row : Row) (column : Column) → is_on_screen row column ≡ true → OnScreen row column
on_screen_of row column e =
    let r = within_facts 1 row.0 15 (and_left (within 1 row.0 15) (within 1 column.0 32) e) in
    let c = within_facts 1 column.0 32 (and_right (within 1 row.0 15) (within 1 column.0 32) e) in
    record { row_low = r.0; row_high = r.1; column_low = c.0; column_high = c.1 }

abbrev pub is_proper : Code → Bool
is_proper (MidRow b) = within 0x20 b 0x2f
is_proper (Special code) = within 0x90 code 0x9f && is_code code
is_proper (Tab n) = within 1 n 3
is_proper (Preamble row column pen) = is_on_screen row column && is_pen pen
is_proper (Ru n) = within 2 n 4
is_proper Unassigned = true
is_proper Rcl = true
is_proper Bs = true
is_proper Der = true
is_proper Fon = true
is_proper Rdc = true
is_proper Tr = true
is_proper Rtd = true
is_proper Edm = true
is_proper Cr = true
is_proper Enm = true
is_proper Eoc = true

pub proper_of : (code : Code) → is_proper code ≡ true → Proper code
proper_of (MidRow b) e = within_facts 0x20 b 0x2f e
proper_of (Special code) e =
    let h = within_facts 0x90 code 0x9f (and_left (within 0x90 code 0x9f) (is_code code) e) in
    (h.0, h.1, and_right (within 0x90 code 0x9f) (is_code code) e)
proper_of (Tab n) e = within_facts 1 n 3 e
proper_of (Preamble row column pen) e =
    let place = is_on_screen row column in
    (on_screen_of row column (and_left place (is_pen pen) e), and_right place (is_pen pen) e)
proper_of (Ru n) e = within_facts 2 n 4 e
proper_of Unassigned e = tt
proper_of Rcl e = tt
proper_of Bs e = tt
proper_of Der e = tt
proper_of Fon e = tt
proper_of Rdc e = tt
proper_of Tr e = tt
proper_of Rtd e = tt
proper_of Edm e = tt
proper_of Cr e = tt
proper_of Enm e = tt
proper_of Eoc e = tt
