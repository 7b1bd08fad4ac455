-- The numbers that a code may carry.
-- Paper 01, "Codes"; 47 CFR 15.119 (g) and (i).
-- Assumes nothing.
use Rattle.std.specs.Prelude.{◌≤◌, ◌≡◌, true}
use Rattle.cell.specs.Place.{OnScreen}
use Rattle.cell.specs.Pen.{is_pen}
use Rattle.cell.specs.Code.{is_code}
use Rattle.codes.specs.declared.Code.{Code}
use Rattle.codes.specs.declared.Code.TheVariants.{Unassigned, MidRow, Special, Tab, Preamble, Rcl, Bs, Der, Ru, Fon, Rdc, Tr, Rtd, Edm, Cr, Enm, Eoc}

-- "20h to 2Fh, mid-row"; a special character is a cell code, 90h to 9Fh; "1 to 3 columns"; a preamble's place is on the screen and its pen allowed; "RU2 to RU4"
abbrev pub Proper : Code → Type 0
Proper (MidRow b) = (0x20 ≤ b) × (b ≤ 0x2f)
Proper (Special code) = (0x90 ≤ code) × (code ≤ 0x9f) × (is_code code ≡ true)
Proper (Tab n) = (1 ≤ n) × (n ≤ 3)
Proper (Preamble row column pen) = OnScreen row column × (is_pen pen ≡ true)
Proper (Ru n) = (2 ≤ n) × (n ≤ 4)
Proper Unassigned = Unit {0}
Proper Rcl = Unit {0}
Proper Bs = Unit {0}
Proper Der = Unit {0}
Proper Fon = Unit {0}
Proper Rdc = Unit {0}
Proper Tr = Unit {0}
Proper Rtd = Unit {0}
Proper Edm = Unit {0}
Proper Cr = Unit {0}
Proper Enm = Unit {0}
Proper Eoc = Unit {0}
