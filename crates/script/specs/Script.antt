-- What the steps of a script come to, one behind the other: a programme of cues, up to the first step that cannot be kept.
-- Paper 02, request 1: "Trainees need captions to practise on."; Paper 01, "Reel and register": "one frame a line"; docs/TAPES.md.
-- Assumes nothing.
use Rattle.std.specs.Prelude.{ℕ, zero, suc, ◌+◌, ◌*◌, ◌/◌, ◌%◌, false, ◌&&◌, List, [], eqb, length}
use Rattle.facts.specs.Choice.{pick}
use Rattle.wire.specs.Reel.{reel_of_raw}
use Rattle.tape.specs.Programme.{programme_of}
use Rattle.steps.specs.Take.{Take, take, blank, Went, went, put_of, show_of, clear_of, wait_of, switch_of}
use Rattle.script.specs.Step.{Step, puts, shows, clears, waits, selects, none, size, step_at}

-- "A fresh desk has channel 1 selected."
abbrev pub start_of : Take
start_of = take 1 false blank []

abbrev pub step_of : Take → Step → Went
step_of t (puts row column pen codes) = put_of t row column pen codes
step_of t (shows frame) = show_of t frame
step_of t (clears frame) = clear_of t frame
step_of t (waits frames) = wait_of t frames
step_of t (selects number) = switch_of t number
step_of t none = went 6 0 t

-- where a script leads: the steps kept, and what the last one came to
pub record Made : Type 0 where
  pub kept : ℕ
  pub last : Went

abbrev pub made : ℕ → Went → Made
made kept last = record { kept = kept; last = last }

-- one step more, unless one was wrong
unfoldable pub on_of : Went → Step → Went
on_of w s = pick (eqb w.wrong 0) (step_of w.to s) w

abbrev pub kept_of : ℕ → ℕ → ℕ
kept_of kept wrong = pick (eqb wrong 0) (kept + 1) kept

abbrev pub more_of : Made → Step → Made
more_of m s = let w = on_of m.last s in made (kept_of m.kept w.wrong) w

-- the first n steps
unfoldable pub reached_of : List ℕ → ℕ → Made
reached_of script zero = made 0 (went 0 0 start_of)
reached_of script (suc n) = more_of (reached_of script n) (step_at script (n * size))

-- a screen still to be shown at the end is shown
unfoldable pub show_last_of : Went → Went
show_last_of w = pick (eqb w.wrong 0 && w.to.drawn) (show_of w.to 0) w

-- the whole script; 1 where it is not whole steps
unfoldable pub made_of : List ℕ → Made
made_of script =
    let m = reached_of script (length script / size) in
    pick (eqb (length script % size) 0) (made m.kept (show_last_of m.last)) (made 0 (went 1 0 start_of))

-- the reel of what was kept
unfoldable pub script_reel_of : List ℕ → List ℕ
script_reel_of script = reel_of_raw (programme_of (made_of script).last.to.cues)
