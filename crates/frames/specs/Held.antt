-- Raw bytes that end in a control pair are held: frames of nothing stand before that pair, which is there twice.
-- Paper 02, request 1: "EOC, every control pair twice."; Paper 01, "Reel and register": "one frame a line".
-- Assumes nothing.
use Rattle.std.specs.Prelude.{ℕ, ◌-◌, List, ◌++◌, length, take, drop}
use Rattle.wire.specs.Reel.{reel_of_raw}
use Rattle.tape.specs.Programme.{nulls_of}

-- the last two pairs are four bytes
abbrev pub last_at : List ℕ → ℕ
last_at raw = length raw - 4

unfoldable pub held_of : List ℕ → ℕ → List ℕ
held_of raw held = reel_of_raw (take (last_at raw) raw) ++ (reel_of_raw (nulls_of held) ++ reel_of_raw (drop (last_at raw) raw))
