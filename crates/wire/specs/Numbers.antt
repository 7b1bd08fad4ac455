-- Each answer of this crate has the paper's number and value.
-- Paper 01, "Numbers given back", rows 0, 1 and 5; "Record, log, tray": "At its end it gives 0 and no pair".
-- Assumes nothing.
use Rattle.std.specs.Prelude.{ℕ, ◌+◌, ◌*◌, Bool, true, false, List, leb, length, Result, Ok, Err}
use Rattle.facts.specs.Choice.{pick}
use Rattle.facts.specs.Over.{part}
use Rattle.wire.specs.Line.{is_line, byte_at}
use Rattle.wire.specs.declared.Line.{Line}
use Rattle.wire.specs.declared.Line.TheVariants.{Pair, End, Bad}
use Rattle.wire.specs.declared.WrongLength.{WrongLength}

-- 5: "a frame line is not four of 0–9 A–F and a line feed"
abbrev pub number_of_line : Line → ℕ
number_of_line (Pair first second) = 0
number_of_line End = 0
number_of_line Bad = 5

-- "what was asked", the pair as one number; else 0
abbrev pub value_of_line : Line → ℕ
value_of_line (Pair first second) = first * 256 + second
value_of_line End = 0
value_of_line Bad = 0

abbrev pub is_pair : Line → Bool
is_pair (Pair first second) = true
is_pair End = false
is_pair Bad = false

-- what is given for a line: the number, whether there is a pair, and the value, so that the pair 0000 and the reel's end, "0 and no pair", are told apart
pub record Reading : Type 0 where
  pub number : ℕ
  pub paired : Bool
  pub value : ℕ

abbrev pub reading : ℕ → Bool → ℕ → Reading
reading number paired value = record { number = number; paired = paired; value = value }

abbrev pub reading_of : Line → Reading
reading_of line = reading (number_of_line line) (is_pair line) (value_of_line line)

-- what is given at a place of a reel: at its end "0 and no pair"; a frame line's pair, the first byte first; else 5
unfoldable pub read_line_of : List ℕ → ℕ → Reading
read_line_of reel at =
    let l = part reel at 5 in
    pick (leb (length reel) at) (reading 0 false 0) (pick (is_line l) (reading 0 true (byte_at l 0 * 256 + byte_at l 2)) (reading 5 false 0))

-- 1: "a lent buffer has a wrong length"
abbrev pub number_of_written : Result Unit WrongLength → ℕ
number_of_written (Ok done) = 0
number_of_written (Err refusal) = 1

-- nothing was asked but the writing: 0 either way
abbrev pub value_of_written : Result Unit WrongLength → ℕ
value_of_written (Ok done) = 0
value_of_written (Err refusal) = 0
