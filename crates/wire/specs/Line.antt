-- A frame line is four of 0-9 A-F and a line feed; these are what stands at a place of a reel, and the line of a pair.
-- Paper 01, "Reel and register"; "Numbers given back", row 5 and the last sentence.
-- Assumes nothing.
use Rattle.std.specs.Prelude.{ℕ, suc, ◌+◌, ◌*◌, ◌/◌, ◌%◌, Bool, ◌&&◌, List, [], ◌∷◌, eqb, leb, ltb, length, get_or}
use Rattle.facts.specs.Choice.{pick}
use Rattle.facts.specs.Every.{every}
use Rattle.facts.specs.Over.{part}
use Rattle.wire.specs.declared.Line.{Line}
use Rattle.wire.specs.declared.Line.TheVariants.{Pair, End, Bad}

-- "0–9 A–F", each at the place of its value
abbrev pub digits : List ℕ
digits = 0x30 ∷ 0x31 ∷ 0x32 ∷ 0x33 ∷ 0x34 ∷ 0x35 ∷ 0x36 ∷ 0x37 ∷ 0x38 ∷ 0x39 ∷ 0x41 ∷ 0x42 ∷ 0x43 ∷ 0x44 ∷ 0x45 ∷ 0x46 ∷ []

-- the first place of x in a list; the list's length where it has none
abbrev pub place_of : List ℕ → ℕ → ℕ
place_of [] x = 0
place_of (y ∷ l) x = pick (eqb x y) 0 (suc (place_of l x))

-- the value of a digit; 16 for a byte that is none
unfoldable pub digit_of : ℕ → ℕ
digit_of byte = place_of digits byte

-- the digit of a value
unfoldable pub hex_of : ℕ → ℕ
hex_of value = get_or digits value 0

abbrev pub is_digit : ℕ → Bool
is_digit byte = ltb (digit_of byte) 16

-- "four of 0–9 A–F and a line feed"
abbrev pub is_line : List ℕ → Bool
is_line l = eqb (length l) 5 && (every (λ k. is_digit (get_or l k 0)) 4 && eqb (get_or l 4 0) 0x0a)

-- the byte of the two digits from place k on, the high digit first
abbrev pub byte_at : List ℕ → ℕ → ℕ
byte_at l k = digit_of (get_or l k 0) * 16 + digit_of (get_or l (k + 1) 0)

-- a frame line is its pair, the first byte first
unfoldable pub judge_of : List ℕ → Line
judge_of l = pick (is_line l) (Pair (byte_at l 0) (byte_at l 2)) Bad

-- "A line is judged where the reel stands, so a short one is 5"; at the reel's end there is none
unfoldable pub line_at : List ℕ → ℕ → Line
line_at reel at = pick (leb (length reel) at) End (judge_of (part reel at 5))

-- the frame line of a pair
unfoldable pub line_of : ℕ → ℕ → List ℕ
line_of first second = hex_of (first / 16) ∷ hex_of (first % 16) ∷ hex_of (second / 16) ∷ hex_of (second % 16) ∷ 0x0a ∷ []
