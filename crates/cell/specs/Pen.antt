-- The pen: its byte, the bytes allowed, and the pens that a mid-row code, a preamble and Flash On give.
-- Paper 01, "Record, log, tray" (bits of the pen), "Codes" (mid-row, preamble) and "What the codes do" (FON); 47 CFR 15.119 (h).
-- Assumes nothing.
use Rattle.std.specs.Prelude.{ℕ, ◌+◌, ◌-◌, ◌*◌, ◌/◌, ◌%◌, ◌^◌, Bool, true, false, ◌&&◌, eqb, leb, ltb}
use Rattle.facts.specs.Choice.{pick}
use Rattle.cell.specs.declared.Pen.{Pen}

-- bit k of a byte is one
abbrev pub is_on : ℕ → ℕ → Bool
is_on k byte = eqb (byte / 2 ^ k % 2) 1

-- "Bit 0 is underline."
abbrev pub is_odd : ℕ → Bool
is_odd b = eqb (b % 2) 1

-- a bit's worth
abbrev pub one : Bool → ℕ
one true = 1
one false = 0

abbrev pub pen : ℕ → Bool → Bool → Bool → Pen
pen colour italics underline flash = record { colour = colour; italics = italics; underline = underline; flash = flash }

-- "Bits 0 to 2 are the colour, 3 italics, 4 underline, 5 flash."
unfoldable pub pack_of : Pen → ℕ
pack_of p = p.colour + one p.italics * 8 + one p.underline * 16 + one p.flash * 32

unfoldable pub unpack_of : ℕ → Pen
unpack_of byte = pen (byte % 8) (is_on 3 byte) (is_on 4 byte) (is_on 5 byte)

-- "colour up to 6, bits 6 and 7 zero"
unfoldable pub is_pen : ℕ → Bool
is_pen byte = leb (byte % 8) 6 && ltb byte 64

-- "Bit 0 is underline. 20h to 2Dh, halved: colour ..; italics off. 2Eh, 2Fh: italics on, colour kept. Both end flash."
unfoldable pub after_mid_row : Pen → ℕ → Pen
after_mid_row p b = pick (ltb b 0x2e) (pen ((b - 0x20) / 2) false (is_odd b) false) (pen p.colour true (is_odd b) false)

-- "Bit 0 of b is underline. Low five bits below 0Eh: colour as above .. no italics. 0Eh, 0Fh: white italics .. From 10h: white .. no italics .. Flash off (house)." (H2)
unfoldable pub of_preamble : ℕ → Pen
of_preamble b =
    pick (ltb (b % 32) 0x0e) (pen (b % 32 / 2) false (is_odd b) false)
    (pick (ltb (b % 32) 0x10) (pen 0 true (is_odd b) false) (pen 0 false (is_odd b) false))

-- "FON: flash on in the pen"
unfoldable pub flashing : Pen → Pen
flashing p = pen p.colour p.italics p.underline true

-- the same on the byte
abbrev pub mid_row_pen_of : ℕ → ℕ → ℕ
mid_row_pen_of byte b = pack_of (after_mid_row (unpack_of byte) b)

abbrev pub preamble_pen_of : ℕ → ℕ
preamble_pen_of b = pack_of (of_preamble b)

abbrev pub flash_pen_of : ℕ → ℕ
flash_pen_of byte = pack_of (flashing (unpack_of byte))
