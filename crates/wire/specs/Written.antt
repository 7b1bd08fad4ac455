-- Writing a frame line gives a number and a value and leaves a buffer; the three are one outcome.
-- Paper 01, "Numbers given back": "the buffer that a line is written to has 5 bytes"; "A refusal changes no byte".
-- Assumes nothing.
use Rattle.std.specs.Prelude.{ℕ, List, eqb, length}
use Rattle.facts.specs.Choice.{pick}
use Rattle.wire.specs.Line.{line_of}

pub record Outcome : Type 0 where
  pub number : ℕ
  pub value : ℕ
  pub out : List ℕ

abbrev pub outcome : ℕ → ℕ → List ℕ → Outcome
outcome number value out = record { number = number; value = value; out = out }

-- the line of the pair in a buffer of five bytes; any other buffer is refused with 1 and stays as it is
unfoldable pub write_line_of : List ℕ → ℕ → ℕ → Outcome
write_line_of out first second = pick (eqb (length out) 5) (outcome 0 0 (line_of first second)) (outcome 1 0 out)
