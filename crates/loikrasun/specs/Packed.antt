-- An exported call gives the paper's number and value as one number, beside the buffers that the call leaves.
-- Paper 01, "Numbers given back": the columns "No." and "Gives"; "A refusal changes no byte."; Paper 02, request 1: "Refusals: 7 for a screen not writable".
-- Assumes nothing.
use Rattle.std.specs.Prelude.{ℕ, ◌+◌, ◌*◌, ◌/◌, ◌%◌, List, eqb, length}
use Rattle.facts.specs.Choice.{pick}
use Rattle.facts.specs.Over.{over}
use Rattle.wire.specs.declared.Line.{Line}
use Rattle.wire.specs.Numbers.{number_of_line, value_of_line}
use Rattle.wire.specs.Written as written
use Rattle.standing.specs.Calls.{Buffers, three, Given, gives, Outcome}
use Rattle.desk.specs.Looks.{view_of, view_number_of}

-- one number for two: the paper's number times 65,536, plus the value
unfoldable pub packed_of : Given → ℕ
packed_of g = g.number * 65536 + g.value

-- what a caller has back from it: the paper's number, and the value
abbrev pub number_in : ℕ → ℕ
number_in packed = packed / 65536

abbrev pub value_in : ℕ → ℕ
value_in packed = packed % 65536

-- what is given for a frame line read
abbrev pub given_line : Line → Given
given_line line = gives (number_of_line line) (value_of_line line)

-- what a call that is lent desk, log and tray gives and leaves
pub record Ended : Type 0 where
  pub result : ℕ
  pub left : Buffers

abbrev pub ended : ℕ → List ℕ → List ℕ → List ℕ → Ended
ended result d l t = record { result = result; left = three d l t }

-- the same of the desk's own outcome
abbrev pub ended_of : Outcome → Ended
ended_of o = record { result = packed_of o.given; left = o.left }

-- what a call that fills one lent buffer gives and leaves
pub record Filled : Type 0 where
  pub result : ℕ
  pub out : List ℕ

abbrev pub filled : ℕ → List ℕ → Filled
filled result out = record { result = result; out = out }

-- a frame line or a tape written
abbrev pub written_of : written.Outcome → Filled
written_of o = filled (packed_of (gives o.number o.value)) o.out

-- what is given for a view that is copied into a lent buffer: 1 for its length first
abbrev pub given_view : List ℕ → List ℕ → Given
given_view d out = pick (eqb (length out) 960) (view_number_of d) (gives 1 0)

-- what the view hands back, copied into 960 bytes; a refused view hands back an empty part, so that every byte stays
unfoldable pub viewed_of : List ℕ → List ℕ → Filled
viewed_of d out = pick (eqb (length out) 960) (filled (packed_of (view_number_of d)) (over out 0 (view_of d))) (filled (packed_of (gives 1 0)) out)
