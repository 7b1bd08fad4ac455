-- The preamble of a row: its row, the row's pen, and an indent where the pen leaves one.
-- Paper 02, request 1: "preambles"; Paper 01, "Codes" ("b from 40h, preamble").
-- Assumes nothing.
use Rattle.std.specs.Prelude.{ℕ, ◌+◌, ◌*◌, ◌/◌, ◌%◌, List, [], ◌∷◌, eqb, get_or}
use Rattle.facts.specs.Choice.{pick}
use Rattle.tape.specs.declared.Item.{Item}
use Rattle.tape.specs.Item.{item}

-- "11h 1, 2; 12h 3, 4; 15h 5, 6; 16h 7, 8; 17h 9, 10; 10h 11, unassigned; 13h 12, 13; 14h 14, 15", from row 1 on
abbrev pub firsts : List ℕ
firsts = 0x11 ∷ 0x11 ∷ 0x12 ∷ 0x12 ∷ 0x15 ∷ 0x15 ∷ 0x16 ∷ 0x16 ∷ 0x17 ∷ 0x17 ∷ 0x10 ∷ 0x13 ∷ 0x13 ∷ 0x14 ∷ 0x14 ∷ []

-- "Rows for b below and from 60h"
abbrev pub seconds : List ℕ
seconds = 0x40 ∷ 0x60 ∷ 0x40 ∷ 0x60 ∷ 0x40 ∷ 0x60 ∷ 0x40 ∷ 0x60 ∷ 0x40 ∷ 0x60 ∷ 0x40 ∷ 0x40 ∷ 0x60 ∷ 0x40 ∷ 0x60 ∷ []

-- white takes an indent, "From 10h"; "0Eh, 0Fh: white italics"; else twice the colour. The pen's low four bits are colour and italics
unfoldable pub style_of : ℕ → ℕ → ℕ
style_of pen lead = pick (eqb (pen % 16) 0) (0x10 + lead / 4 * 2) (pick (eqb (pen % 16) 8) 0x0e (pen % 16 * 2))

-- "indent 4 times half the excess over 10h", as far as the row's first cells are empty; "column 1" for any other pen
unfoldable pub indent_of : ℕ → ℕ → ℕ
indent_of pen lead = pick (eqb (pen % 16) 0) (lead / 4 * 4) 0

-- the preamble of a row, counted from 0, with `lead` empty cells in front; "Bit 0 of b is underline"
unfoldable pub preamble_item_of : ℕ → ℕ → ℕ → Item
preamble_item_of row pen lead = item (get_or firsts row 0) (get_or seconds row 0 + (style_of pen lead + pen / 16)) (indent_of pen lead)
