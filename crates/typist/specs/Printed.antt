-- How many bytes are printed for a script.
-- Paper 02, request 1: "Trainees need captions to practise on."; Paper 01, "Reel and register"; docs/TAPES.md: "no reel is printed".
-- Assumes nothing.
use Rattle.std.specs.Prelude.{ℕ, ◌&&◌, List, Option, eqb, is_none, length}
use Rattle.facts.specs.Choice.{pick}
use Rattle.script.specs.Script.{made_of, script_reel_of}

-- those of its reel where no step is wrong, and no line behind them that was no step: `line` is what is wrong with that, if there is one
abbrev pub printed_of : {A : Type 0} → List ℕ → Option A → ℕ
printed_of script line = pick (eqb (made_of script).last.wrong 0 && is_none line) (length (script_reel_of script)) 0
