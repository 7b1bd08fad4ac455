-- What the code computes of one byte or one digit is its definition, each by one test of the whole table. Assumes nothing.
use mathlib.Core.Path.{◌≡◌, refl}
use mathlib.Core.Bool.{◌&&◌}
use Prim.Native.Nat.{ℕ, ◌+◌, ◌-◌, ◌<◌}
use lib.Bits.{bit_and}
use lib.Count.{ones, ones_in}
use lib.Dec.{leb, ltb}
use Rattle.facts.specs.Choice.{pick}
use Rattle.facts.proofs.Every.{agree}
use Rattle.wire.specs.Byte.{ones_of, low_seven}
use Rattle.wire.specs.Line.{digit_of, hex_of}

-- the language's own count adds the eight bits
pub ones_ones_of : (byte : ℕ) → byte < 256 → ones byte ≡ ones_of byte
unfolding ones ones_in
ones_ones_of = agree ones ones_of 256 refl

pub mask_low_seven : (byte : ℕ) → byte < 256 → bit_and byte 0x7f ≡ low_seven byte
unfolding low_seven
mask_low_seven = agree (λ byte. bit_and byte 0x7f) low_seven 256 refl

-- the value of a digit by the two ranges that digits lie in
abbrev pub ranged : ℕ → ℕ
ranged byte = pick (leb 0x30 byte && leb byte 0x39) (byte - 0x30) (pick (leb 0x41 byte && leb byte 0x46) (byte - 0x37) 16)

pub ranged_digit_of : (byte : ℕ) → byte < 256 → ranged byte ≡ digit_of byte
unfolding digit_of
ranged_digit_of = agree ranged digit_of 256 refl

-- the digit of a value by the start of either range
abbrev pub shifted : ℕ → ℕ
shifted value = pick (ltb value 10) (0x30 + value) (0x41 + (value - 10))

pub shifted_hex_of : (value : ℕ) → value < 16 → shifted value ≡ hex_of value
unfolding hex_of
shifted_hex_of = agree shifted hex_of 16 refl
