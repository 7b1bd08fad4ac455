-- What may stand on a tape: pairs of these kinds and no others, in this order, every byte of them as a value is sent.
-- Paper 02, request 1: "RCL, ENM, preambles, tabs, characters, EOC, every control pair twice."; Paper 01, "Codes".
-- Assumes nothing.
use Rattle.std.specs.Prelude.{ℕ, ◌+◌, ◌-◌, ◌*◌, ◌≤◌, ◌≡◌, true, false, List, [], ◌∷◌, ◌++◌}
use Rattle.wire.specs.Byte.{is_good, low_seven, sent_of}
use Rattle.codes.specs.Codes.{code_of}
use Rattle.codes.specs.Assigned.{is_unassigned}

-- "every control pair twice", for channel 2 with 8 more in its first value
abbrev pub twice_of : ℕ → ℕ → ℕ → List ℕ
twice_of channel a b =
    let x = sent_of (a + (channel - 1) * 8) in
    let y = sent_of b in
    x ∷ y ∷ x ∷ y ∷ []

-- characters come once
abbrev pub once_of : ℕ → ℕ → List ℕ
once_of a b = sent_of a ∷ sent_of b ∷ []

-- "20h–7Fh": a character that is one byte
abbrev pub Printing : ℕ → Type 0
Printing code = (0x20 ≤ code) × (code ≤ 0x7f)

-- "b from 40h, preamble", but for the "unassigned" ones
abbrev pub Addressing : ℕ → ℕ → Type 0
Addressing a b = (0x10 ≤ a) × (a ≤ 0x17) × (0x40 ≤ b) × (b ≤ 0x7f) × (is_unassigned (code_of a b) ≡ false)

-- "17h 21h to 23h, tab"; "11h 30h to 3Fh, special characters"; two characters, or one and a null
pub data Cells (channel : ℕ) : List ℕ → Type 0 where
  end : Cells channel []
  tab : (b : ℕ) → 0x21 ≤ b → b ≤ 0x23 → {s : List ℕ} → Cells channel s → Cells channel (twice_of channel 0x17 b ++ s)
  special : (b : ℕ) → 0x30 ≤ b → b ≤ 0x3f → {s : List ℕ} → Cells channel s → Cells channel (twice_of channel 0x11 b ++ s)
  one : (a : ℕ) → Printing a → {s : List ℕ} → Cells channel s → Cells channel (once_of a 0 ++ s)
  two : (a b : ℕ) → Printing a → Printing b → {s : List ℕ} → Cells channel s → Cells channel (once_of a b ++ s)

-- rows, each a preamble and its cells
pub data Rows (channel : ℕ) : List ℕ → Type 0 where
  top : Rows channel []
  row : {s : List ℕ} → Rows channel s → (a b : ℕ) → Addressing a b → {t : List ℕ} → Cells channel t → Rows channel (s ++ (twice_of channel a b ++ t))

-- "RCL, ENM", the rows, "EOC"
pub data Made (channel : ℕ) : List ℕ → Type 0 where
  made : {s : List ℕ} → Rows channel s → Made channel (((twice_of channel 0x14 0x20 ++ twice_of channel 0x14 0x2e) ++ s) ++ twice_of channel 0x14 0x2f)

-- every byte is good
abbrev pub AllGood : List ℕ → Type 0
AllGood [] = Unit
AllGood (x ∷ more) = (is_good x ≡ true) × AllGood more

-- whole pairs, none of which begins with a null
abbrev pub NoNull : List ℕ → Type 0
NoNull [] = Unit
NoNull (x ∷ []) = ⊥
NoNull (x ∷ y ∷ more) = (low_seven x ≡ 0 → ⊥) × NoNull more
