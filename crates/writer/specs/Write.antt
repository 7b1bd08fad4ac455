-- The call that writes a tape: the bytes of its pairs, or the paper's number for a refusal.
-- Paper 02, request 1: "Refusals: 7 for a screen not writable, after 1, 6 and 2; invalid cells give 6."; Paper 01, "Numbers given back".
-- Assumes nothing.
use Rattle.std.specs.Prelude.{ℕ, Bool, ◌&&◌, List, Result, Ok, Err, eqb, leb, length}
use Rattle.facts.specs.Choice.{pick}
use Rattle.facts.specs.Over.{over}
use Rattle.wire.specs.Written.{Outcome, outcome}
use Rattle.tape.specs.Writable.{are_cells, is_writable}
use Rattle.tape.specs.Tape.{tape_of}
use Rattle.writer.specs.declared.Refusal.{Refusal}
use Rattle.writer.specs.declared.Refusal.TheVariants.{WrongLength, NoSuch, Invalid, NotWritable}

-- the paper's number for each refusal
abbrev pub number_of_refusal : Refusal → ℕ
number_of_refusal WrongLength = 1
number_of_refusal NoSuch = 2
number_of_refusal Invalid = 6
number_of_refusal NotWritable = 7

-- the paper's number and value for what is given back
abbrev pub number_of_tape : Result ℕ Refusal → ℕ
number_of_tape (Ok value) = 0
number_of_tape (Err refusal) = number_of_refusal refusal

abbrev pub value_of_tape : Result ℕ Refusal → ℕ
value_of_tape (Ok value) = value
value_of_tape (Err refusal) = 0

-- 1 where it is not so: "one memory of 960 bytes", "The output buffer holds 4,096 bytes"
abbrev pub is_lent : List ℕ → List ℕ → Bool
is_lent memory out = eqb (length memory) 960 && eqb (length out) 4096

-- 2 where it is not so: "channel not 1–2"
abbrev pub is_channel : ℕ → Bool
is_channel channel = leb 1 channel && leb channel 2

-- the bytes of the pairs from the first byte on, and how many they are; "A refusal changes no byte."
unfoldable pub write_tape_of : List ℕ → ℕ → List ℕ → Outcome
write_tape_of memory channel out =
    let tape = tape_of memory channel in
    pick (is_lent memory out)
    (pick (are_cells memory)
    (pick (is_channel channel)
    (pick (is_writable memory) (outcome 0 (length tape) (over out 0 tape)) (outcome 7 0 out))
    (outcome 2 0 out))
    (outcome 6 0 out))
    (outcome 1 0 out)
