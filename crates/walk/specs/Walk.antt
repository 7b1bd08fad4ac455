-- The walk over a reel that prints its register: where it stands, and what one step does and prints.
-- Paper 01, "Reel and register": "The runs and the bytes of each line are worked out in the proved part; the program only reads and prints."
-- Assumes nothing.
use Rattle.std.specs.Prelude.{◌≡◌, Bool, List, [], ◌++◌, ℕ, ◌+◌, ◌-◌, ◌≤◌, length, replicate}
use Rattle.facts.specs.Choice.{pick}
use Rattle.wire.specs.declared.Line.{Line}
use Rattle.wire.specs.declared.Line.TheVariants.{Pair, End, Bad}
use Rattle.state.specs.declared.State.{State}
use Rattle.state.specs.State.{desk, fresh_of}
use Rattle.decode.specs.Pair.{pair_of}
use Rattle.decode.specs.Sound.{SoundDesk}
use Rattle.lines.specs.Line.{header, run, lines_of}
use Rattle.runs.specs.Frames.{screen_of, most, next_of}
use Rattle.runs.specs.Runs.{is_same, empty_screen}
use Rattle.runs.specs.Register.{refusal_of}
use Rattle.walk.specs.declared.Stage.{Stage}
use Rattle.walk.specs.declared.Walk.{Walk}
use Rattle.walk.specs.Stage.{at_header, at_frames, at_end, is_header, stages_of}

-- what is by value and what is lent: the walk, the cells, and the screen of the stretch that is open
pub record Place : Type 0 where
  pub walk : Walk
  pub cells : List ℕ
  pub held : List ℕ

abbrev pub place : Walk → List ℕ → List ℕ → Place
place w cells held = record { walk = w; cells = cells; held = held }

abbrev pub walk : Stage → ℕ → ℕ → State → Walk
walk stage frame since state = record { stage = stage; frame = frame; since = since; state = state }

unfoldable pub start_of : Place
start_of = place (walk at_header 0 0 (fresh_of 1)) (replicate 1920 0) empty_screen

-- what every step asks and keeps
pub record Fit (p : Place) : Type 0 where
  pub desk : SoundDesk (desk p.walk.state p.cells)
  pub held : length p.held ≡ 960
  pub frame : p.walk.frame ≤ most

-- how many steps are left at most
abbrev pub steps_of : Walk → ℕ
steps_of w = (most - w.frame) + stages_of w.stage

-- the longest output of one step: fifteen lines of a run, and a refusal
abbrev pub room : ℕ
room = 1216

-- whether the screen after a pair is the one that is held
abbrev pub stays_of : Place → ℕ → ℕ → Bool
stays_of p first second = is_same (screen_of (pair_of (desk p.walk.state p.cells) first second)) p.held

-- a frame's pair is taken; where the screen changes, the stretch that was open is printed, and the next one is open since this frame
unfoldable pub shown_of : Place → ℕ → ℕ → Place
shown_of p first second =
    let d = pair_of (desk p.walk.state p.cells) first second in
    let frame = p.walk.frame + 1 in
    place (walk at_frames frame (pick (stays_of p first second) p.walk.since frame) d.state) d.cells (pick (stays_of p first second) p.held (screen_of d))

unfoldable pub shown_text_of : Place → ℕ → ℕ → List ℕ
shown_text_of p first second = pick (stays_of p first second) [] (lines_of (run p.walk.since p.walk.frame p.held))

-- "The end of the input closes an open run at the last frame", and a refusal "at the last good frame"
unfoldable pub finished_of : Walk → Walk
finished_of w = walk at_end w.frame w.since w.state

unfoldable pub finish_text_of : Walk → List ℕ → ℕ → List ℕ
finish_text_of w held size = lines_of (run w.since w.frame held) ++ refusal_of size w.frame

-- by the line that stands next: a pair is shown, all else finishes
abbrev pub on_line : Line → Place → Place
on_line (Pair first second) p = shown_of p first second
on_line End p = place (finished_of p.walk) p.cells p.held
on_line Bad p = place (finished_of p.walk) p.cells p.held

abbrev pub on_line_text_of : Line → Place → ℕ → List ℕ
on_line_text_of (Pair first second) p size = shown_text_of p first second
on_line_text_of End p size = finish_text_of p.walk p.held size
on_line_text_of Bad p size = finish_text_of p.walk p.held size

-- the header is printed, and nothing else changes
abbrev pub headed_of : Place → Place
headed_of p = place (walk at_frames p.walk.frame p.walk.since p.walk.state) p.cells p.held

-- one step: the header, or what stands behind the frames that are read
unfoldable pub step_of : Place → List ℕ → Place
step_of p reel = pick (is_header p.walk.stage) (headed_of p) (on_line (next_of reel p.walk.frame) p)

unfoldable pub step_text_of : Place → List ℕ → List ℕ
step_text_of p reel = pick (is_header p.walk.stage) header (on_line_text_of (next_of reel p.walk.frame) p (length reel))
