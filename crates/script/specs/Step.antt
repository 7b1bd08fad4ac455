-- A script is what was typed, step by step, forty bytes a step; these are the steps, and how they stand in a script.
-- Paper 02, request 1: "Trainees need captions to practise on."; Paper 01, "Reel and register": "frames from 1"; docs/TAPES.md.
-- Assumes nothing.
use Rattle.std.specs.Prelude.{ℕ, ◌+◌, ◌*◌, ◌&&◌, List, eqb, leb, get_or}
use Rattle.facts.specs.Choice.{pick}
use Rattle.facts.specs.Over.{part}

-- `puts row column pen codes`: characters side by side; `shows frame`, `clears frame`: from that frame on, 0 for as early as can be; `waits frames`; `selects channel`; else it is no step
pub data Step : Type 0 where
  puts : ℕ → ℕ → ℕ → List ℕ → Step
  shows : ℕ → Step
  clears : ℕ → Step
  waits : ℕ → Step
  selects : ℕ → Step
  none : Step

abbrev pub size : ℕ
size = 40

-- The step from byte `at` on: its first byte is the kind; two bytes are a number, the low one first, or row and column; then the pen, how many codes there are, 32 at most, and from byte 8 on the codes.
-- Bytes 5 to 7 are the reader's own: the line where the step was typed
unfoldable pub step_at : List ℕ → ℕ → Step
step_at script at =
    let kind = get_or script at 0 in
    let number = get_or script (at + 1) 0 + get_or script (at + 2) 0 * 256 in
    let count = get_or script (at + 4) 0 in
    pick (eqb kind 1 && leb count 32) (puts (get_or script (at + 1) 0) (get_or script (at + 2) 0) (get_or script (at + 3) 0) (part script (at + 8) count))
    (pick (eqb kind 2) (shows number)
    (pick (eqb kind 3) (clears number)
    (pick (eqb kind 4) (waits number)
    (pick (eqb kind 5) (selects number) none))))
