-- The row that a preamble sets.
-- Paper 01, "Codes" (the preamble's rows); 47 CFR 15.119 (i), "Preamble Address Codes".
-- Assumes nothing.
use Rattle.std.specs.Prelude.{ℕ, List, [], ◌∷◌, ltb}
use Rattle.facts.specs.Choice.{pick}
use Rattle.codes.specs.Listed.{listed}

-- "11h 1, 2; 12h 3, 4; 15h 5, 6; 16h 7, 8; 17h 9, 10; 10h 11, unassigned; 13h 12, 13; 14h 14, 15", 0 for unassigned
abbrev pub rows : List (ℕ × (ℕ × ℕ))
rows =
    (0x11, (1, 2)) ∷ (0x12, (3, 4)) ∷ (0x15, (5, 6)) ∷ (0x16, (7, 8)) ∷ (0x17, (9, 10)) ∷ (0x10, (11, 0)) ∷ (0x13, (12, 13)) ∷ (0x14, (14, 15)) ∷ []

-- "Rows for b below and from 60h: .."
unfoldable pub preamble_row_of : ℕ → ℕ → ℕ
preamble_row_of a b = pick (ltb b 0x60) (listed rows (0, 0) a).0 (listed rows (0, 0) a).1
