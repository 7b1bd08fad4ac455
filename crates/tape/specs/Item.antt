-- An item of a tape is a control pair, which is sent twice, or a pair of one or two characters; which one comes next, by the codes of three cells side by side.
-- Paper 02, request 1: "preambles, tabs, characters, .. every control pair twice"; Paper 01, "Codes".
-- Assumes nothing.
use Rattle.std.specs.Prelude.{ℕ, ◌+◌, ◌-◌, ◌*◌, Bool, ◌&&◌, List, [], ◌∷◌, eqb, leb, ltb}
use Rattle.facts.specs.Choice.{pick}
use Rattle.wire.specs.Byte.{sent_of}
use Rattle.tape.specs.declared.Item.{Item}

abbrev pub item : ℕ → ℕ → ℕ → Item
item first second columns = record { first = first; second = second; columns = columns }

-- "14h: 20h RCL, .. 2Ch EDM, .. 2Eh ENM, 2Fh EOC"
abbrev pub rcl_item : Item
rcl_item = item 0x14 0x20 0

abbrev pub edm_item : Item
edm_item = item 0x14 0x2c 0

abbrev pub enm_item : Item
enm_item = item 0x14 0x2e 0

abbrev pub eoc_item : Item
eoc_item = item 0x14 0x2f 0

-- "20h–7Fh": a character that is one byte
abbrev pub is_plain : ℕ → Bool
is_plain code = leb 0x20 code && leb code 0x7f

-- "1 to 3 columns right": over an empty cell, and over the next two where they are empty too
abbrev pub gap_of : ℕ → ℕ → ℕ
gap_of next after = pick (eqb next 0) (pick (eqb after 0) 3 2) 1

-- over an empty cell a tab; a special character is its pair, "cell code 60h more than b"; two plain characters side by side share a pair
unfoldable pub next_item_of : ℕ → ℕ → ℕ → Item
next_item_of code next after =
    pick (eqb code 0) (item 0x17 (0x20 + gap_of next after) (gap_of next after))
    (pick (leb 0x90 code) (item 0x11 (code - 0x60) 1)
    (pick (is_plain next) (item code next 2) (item code 0 1)))

-- "every control pair twice", for channel 2 with 8 more in its first value; a null beside a single character
unfoldable pub bytes_of : ℕ → Item → List ℕ
bytes_of channel i =
    let a = sent_of (i.first + (channel - 1) * 8) in
    let b = sent_of i.second in
    pick (ltb i.first 0x20) (a ∷ b ∷ a ∷ b ∷ []) (sent_of i.first ∷ b ∷ [])

-- the most bytes that an item has
abbrev pub widest : ℕ
widest = 4
