-- Which pairs are assigned.
-- Paper 01, "Codes" ("All else from 10h is unassigned.") and "Record, log, tray" ("expected none or assigned").
-- Assumes nothing.
use Rattle.std.specs.Prelude.{ℕ, Bool, true, false, not, ◌&&◌, ◌||◌, eqb, leb}
use Rattle.codes.specs.declared.Code.{Code}
use Rattle.codes.specs.declared.Code.TheVariants.{Unassigned, MidRow, Special, Tab, Preamble, Rcl, Bs, Der, Ru, Fon, Rdc, Tr, Rtd, Edm, Cr, Enm, Eoc}
use Rattle.codes.specs.Codes.{code_of}

-- the code "unassigned", and no other
abbrev pub is_unassigned : Code → Bool
is_unassigned Unassigned = true
is_unassigned (MidRow b) = false
is_unassigned (Special code) = false
is_unassigned (Tab n) = false
is_unassigned (Preamble row column pen) = false
is_unassigned Rcl = false
is_unassigned Bs = false
is_unassigned Der = false
is_unassigned (Ru n) = false
is_unassigned Fon = false
is_unassigned Rdc = false
is_unassigned Tr = false
is_unassigned Rtd = false
is_unassigned Edm = false
is_unassigned Cr = false
is_unassigned Enm = false
is_unassigned Eoc = false

-- "a from 10h to 1Fh", and b neither below 20h nor above seven bits
abbrev pub is_control : ℕ → ℕ → Bool
is_control a b = leb 0x10 a && leb a 0x1f && leb 0x20 b && leb b 0x7f

-- a pair of either channel, "with the channel still in a"
unfoldable pub is_assigned : ℕ → ℕ → Bool
is_assigned a b = is_control a b && not (is_unassigned (code_of a b))

-- "expected none or assigned", "(0, 0 none)"
unfoldable pub is_expected : ℕ → ℕ → Bool
is_expected a b = (eqb a 0 && eqb b 0) || is_assigned a b
