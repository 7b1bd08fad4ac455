-- What a pair says, and for which channel.
-- Paper 01, "Codes (channel 1 values)" and "Pair rules", 3 (the channel); 47 CFR 15.119 (g) (special characters) and (i) (the other codes).
-- Assumes nothing.
use Rattle.std.specs.Prelude.{ℕ, ◌+◌, ◌-◌, ◌&&◌, List, [], ◌∷◌, eqb, leb}
use Rattle.facts.specs.Choice.{pick}
use Rattle.cell.specs.Place.{row_number}
use Rattle.cell.specs.Pen.{preamble_pen_of}
use Rattle.cell.specs.Cursor.{preamble_column_of}
use Rattle.codes.specs.declared.Code.{Code}
use Rattle.codes.specs.declared.Code.TheVariants.{Unassigned, MidRow, Special, Tab, Preamble, Rcl, Bs, Der, Ru, Fon, Rdc, Tr, Rtd, Edm, Cr, Enm, Eoc}
use Rattle.codes.specs.Listed.{listed}
use Rattle.codes.specs.Rows.{preamble_row_of}

-- "the stream's channel becomes 1 (a up to 17h) or 2 (a from 18h, ..)"
unfoldable pub channel_of : ℕ → ℕ
channel_of a = pick (leb a 0x17) 1 2

-- "a from 18h, then 8 is taken off"
unfoldable pub without_channel_of : ℕ → ℕ
without_channel_of a = pick (leb a 0x17) a (a - 8)

-- "11h 20h to 2Fh, mid-row." "11h 30h to 3Fh, special characters: cell code 60h more than b."
unfoldable pub mid_row_or_special_of : ℕ → Code
mid_row_or_special_of b = pick (leb b 0x2f) (MidRow b) (Special (b + 0x60))

-- "17h 21h to 23h, tab: 1 to 3 columns right"
unfoldable pub tab_offset_of : ℕ → Code
tab_offset_of b = pick (leb 0x21 b && leb b 0x23) (Tab (b - 0x20)) Unassigned

-- "b from 40h, preamble."
unfoldable pub preamble_code_of : ℕ → ℕ → Code
preamble_code_of a b =
    pick (eqb (preamble_row_of a b) 0) Unassigned (Preamble (row_number (preamble_row_of a b)) (preamble_column_of b) (preamble_pen_of b))

-- "20h RCL, 21h BS, 24h DER, 25h to 27h RU2 to RU4, 28h FON, 29h RDC, 2Ah TR, 2Bh RTD, 2Ch EDM, 2Dh CR, 2Eh ENM, 2Fh EOC"
abbrev pub controls : List (ℕ × Code)
controls =
    (0x20, Rcl) ∷ (0x21, Bs) ∷ (0x24, Der) ∷ (0x25, Ru 2) ∷ (0x26, Ru 3) ∷ (0x27, Ru 4) ∷ (0x28, Fon) ∷ (0x29, Rdc) ∷ (0x2a, Tr) ∷ (0x2b, Rtd)
    ∷ (0x2c, Edm) ∷ (0x2d, Cr) ∷ (0x2e, Enm) ∷ (0x2f, Eoc) ∷ []

-- "14h: .."
abbrev pub control_of : ℕ → Code
control_of b = listed controls Unassigned b

-- the four together; "All else from 10h is unassigned."
unfoldable pub channel_one_code_of : ℕ → ℕ → Code
channel_one_code_of a b =
    pick (leb 0x40 b) (preamble_code_of a b)
    (pick (eqb a 0x11) (mid_row_or_special_of b)
    (pick (eqb a 0x17) (tab_offset_of b)
    (pick (eqb a 0x14) (control_of b) Unassigned)))

-- what a pair of either channel says, for a from 10h to 1Fh and b from 20h to 7Fh
unfoldable pub code_of : ℕ → ℕ → Code
code_of a b = channel_one_code_of (without_channel_of a) b
