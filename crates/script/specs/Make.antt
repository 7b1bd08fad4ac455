-- The call: what a script comes to, and its reel in a lent buffer.
-- Paper 02, request 1: "Its bytes past the pairs keep what they held."; Paper 01, "Numbers given back": "a lent buffer has a wrong length"; docs/TAPES.md.
-- Assumes nothing.
use Rattle.std.specs.Prelude.{ℕ, List, eqb, length}
use Rattle.facts.specs.Choice.{pick}
use Rattle.facts.specs.Over.{over}
use Rattle.script.specs.Script.{made_of, script_reel_of}

-- what was wrong, how many steps were kept before it, and the earliest frame that it could have had; how many bytes the reel has, and the buffer
pub record Outcome : Type 0 where
  pub wrong : ℕ
  pub kept : ℕ
  pub earliest : ℕ
  pub n : ℕ
  pub out : List ℕ

abbrev pub outcome : ℕ → ℕ → ℕ → ℕ → List ℕ → Outcome
outcome wrong kept earliest n out = record { wrong = wrong; kept = kept; earliest = earliest; n = n; out = out }

-- 16,000 lines of five bytes
abbrev pub room : ℕ
room = 80000

-- the reel of what was kept stands at the front of the buffer, and what lies behind it stays; 1 for a buffer that has not that room
unfoldable pub make_of : List ℕ → List ℕ → Outcome
make_of script out =
    let m = made_of script in
    let reel = script_reel_of script in
    pick (eqb (length out) room) (outcome m.last.wrong m.kept m.last.earliest (length reel) (over out 0 reel)) (outcome 1 0 0 0 out)
