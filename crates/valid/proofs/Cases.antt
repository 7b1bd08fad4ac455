-- Heads, cells and windows worked out: which are valid and which are not. Assumes nothing.
use mathlib.Core.Path.{◌≡◌, refl}
use mathlib.Core.Bool.{Bool, true, false, not, ◌&&◌}
use mathlib.Core.List.{List, [], ◌∷◌}
use Prim.Native.Nat.{ℕ}
use lib.ListN.{set, replicate}
use Rattle.facts.specs.Every.{blank_of}
use Rattle.cell.specs.Place.{row_number}
use Rattle.cell.specs.Pen.{is_pen}
use Rattle.cell.specs.Code.{is_code, is_cell}
use Rattle.codes.specs.Rows.{preamble_row_of}
use Rattle.codes.specs.Codes.{without_channel_of, mid_row_or_special_of, tab_offset_of, preamble_code_of, channel_one_code_of, code_of}
use Rattle.codes.specs.Assigned.{is_assigned, is_expected}
use Rattle.record.specs.Layout.{state_of}
use Rattle.valid.specs.Valid.{is_cursor, is_valid_state, is_cell_at, is_in_window}
use Rattle.valid.specs.Check.{is_row, is_counted}

-- bytes 0 to 18 after 16,000 acts: roll-up of three rows, base row 14, column 5, pen 3Eh; a carriage return is expected
abbrev rolling : List ℕ
rolling = 0x80 ∷ 0x3e ∷ 1 ∷ 1 ∷ 1 ∷ 0 ∷ 1 ∷ 3 ∷ 14 ∷ 5 ∷ 0x3e ∷ 15 ∷ 1 ∷ 0 ∷ 15 ∷ 32 ∷ 0 ∷ 0x14 ∷ 0x2d ∷ []

-- the same with other values in bytes
abbrev but : List (ℕ × ℕ) → List ℕ
but [] = rolling
but (b ∷ bs) = set (but bs) b.0 b.1

-- bytes changed, and whether what comes of it is valid
abbrev heads : List (List (ℕ × ℕ) × Bool)
heads =
    ([], true)
    -- 16,001 acts
    ∷ ((0, 0x81) ∷ [], false)
    -- channels 0 and 3 selected; channels 0 and 3 of the stream
    ∷ ((2, 0) ∷ [], false)
    ∷ ((2, 3) ∷ [], false)
    ∷ ((3, 0) ∷ [], true)
    ∷ ((3, 3) ∷ [], false)
    -- a fourth style; Text and mark of 2
    ∷ ((4, 4) ∷ [], false)
    ∷ ((5, 2) ∷ [], false)
    ∷ ((6, 2) ∷ [], false)
    -- depths 0, 1, 4 and 5 with the mark set
    ∷ ((7, 0) ∷ [], false)
    ∷ ((7, 1) ∷ [], false)
    ∷ ((7, 4) ∷ [], true)
    ∷ ((7, 5) ∷ [], false)
    -- rows 0 and 16, columns 0 and 33, a colour 7, bit 6
    ∷ ((8, 0) ∷ [], false)
    ∷ ((11, 16) ∷ [], false)
    ∷ ((9, 0) ∷ [], false)
    ∷ ((15, 33) ∷ [], false)
    ∷ ((13, 7) ∷ [], false)
    ∷ ((16, 0x40) ∷ [], false)
    -- base rows 3 and 2 with three rows, 4 and 3 with four, 2 and 1 with two; base row 1 with four rows, the mark clear
    ∷ ((8, 3) ∷ [], true)
    ∷ ((8, 2) ∷ [], false)
    ∷ ((7, 4) ∷ (8, 4) ∷ [], true)
    ∷ ((7, 4) ∷ (8, 3) ∷ [], false)
    ∷ ((7, 2) ∷ (8, 2) ∷ [], true)
    ∷ ((7, 2) ∷ (8, 1) ∷ [], false)
    ∷ ((4, 2) ∷ (6, 0) ∷ (7, 4) ∷ (8, 1) ∷ [], true)
    -- roll-up with the mark clear; pop-on and paint-on with it set; both with it clear, depth 1 and depth 0
    ∷ ((6, 0) ∷ [], false)
    ∷ ((4, 2) ∷ [], true)
    ∷ ((4, 3) ∷ [], false)
    ∷ ((4, 3) ∷ (6, 0) ∷ [], true)
    ∷ ((4, 2) ∷ (6, 0) ∷ (7, 1) ∷ [], false)
    ∷ ((4, 2) ∷ (6, 0) ∷ (7, 0) ∷ [], true)
    -- expected: none, half a pair, channel 2's carriage return, a parity bit, an unassigned pair
    ∷ ((17, 0) ∷ (18, 0) ∷ [], true)
    ∷ ((17, 0) ∷ [], false)
    ∷ ((18, 0) ∷ [], false)
    ∷ ((17, 0x1c) ∷ [], true)
    ∷ ((18, 0xad) ∷ [], false)
    ∷ ((17, 0x10) ∷ (18, 0x60) ∷ [], false)
    ∷ []

agrees : Bool → Bool → Bool
agrees true b = b
agrees false b = not b

judged : List (List (ℕ × ℕ) × Bool) → Bool
judged [] = true
judged (h ∷ hs) = agrees (is_valid_state (state_of (but h.0))) h.1 && judged hs

all_judged : judged heads ≡ true
unfolding judged agrees state_of is_valid_state is_cursor is_pen is_expected is_assigned code_of without_channel_of channel_one_code_of mid_row_or_special_of tab_offset_of preamble_code_of preamble_row_of
all_judged = refl

-- byte 60 is one of those that are zero
zeros_judged : (blank_of (replicate 64 0) 49 15 ≡ true) × (blank_of (set (replicate 64 0) 60 1) 49 15 ≡ false)
unfolding blank_of
zeros_judged = (refl, refl)

-- the attribute space with a pen; a letter in colour 7; an empty cell with a pen; codes 1Fh and 81h
cells_judged : (is_cell_at (0x80 ∷ 0x3e ∷ []) 0 0 ≡ true) × (is_cell_at (0x41 ∷ 7 ∷ []) 0 0 ≡ false) × (is_cell_at (0 ∷ 1 ∷ []) 0 0 ≡ false)
    × (is_cell_at (0x1f ∷ 0 ∷ []) 0 0 ≡ false) × (is_cell_at (0x81 ∷ 0 ∷ []) 0 0 ≡ false)
unfolding is_cell is_code is_pen
cells_judged = (refl, refl, refl, refl, refl)

-- three rows at base row 15 are 13 to 15; four rows at base row 4 are 1 to 4
windows_judged : (is_in_window (row_number 15) 3 12 ≡ false) × (is_in_window (row_number 15) 3 13 ≡ true)
    × (is_in_window (row_number 4) 4 1 ≡ true) × (is_in_window (row_number 4) 4 5 ≡ false)
windows_judged = (refl, refl, refl, refl)

-- a row with 20h, 7Fh, 80h and 99h in it counts 4, and not 3 or 5; an empty row counts 0, and not 1
abbrev four : List ℕ
four = 0x20 ∷ 0 ∷ 0 ∷ 0 ∷ 0x7f ∷ 0 ∷ 0x80 ∷ 0x3e ∷ 0x99 ∷ 0 ∷ replicate 54 0

counts_judged : (is_counted four 0 4 ≡ true) × (is_counted four 0 3 ≡ false) × (is_counted four 0 5 ≡ false)
    × (is_counted (replicate 64 0) 0 0 ≡ true) × (is_counted (replicate 64 0) 0 1 ≡ false)
unfolding is_counted is_row is_cell is_code is_pen
counts_judged = (refl, refl, refl, refl, refl)
