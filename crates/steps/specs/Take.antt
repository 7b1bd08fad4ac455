-- What a step of a script comes to: cues behind those that there are, or why it cannot be kept.
-- Paper 02, request 1: "writable", "EOC", and its refusals; Paper 01, "Reel and register": "Bytes after 16,000 lines"; docs/TAPES.md.
-- Assumes nothing.
use Rattle.std.specs.Prelude.{ℕ, ◌+◌, ◌-◌, ◌*◌, Bool, true, false, ◌&&◌, ◌||◌, List, [], ◌∷◌, ◌++◌, eqb, leb, length, replicate}
use Rattle.facts.specs.Choice.{pick}
use Rattle.facts.specs.Over.{over}
use Rattle.wire.specs.Reel.{pairs_of}
use Rattle.valid.specs.Check.{is_row}
use Rattle.tape.specs.Writable.{are_cells, is_row_writable, is_writable}
use Rattle.tape.specs.Tape.{tape_of}
use Rattle.tape.specs.Programme.{Cue, show, clear, wait, programme_of}

-- the channel that is written for, the screen that is typed and whether it is still to be shown, and the cues so far
pub record Take : Type 0 where
  pub channel : ℕ
  pub drawn : Bool
  pub screen : List ℕ
  pub cues : List Cue

abbrev pub take : ℕ → Bool → List ℕ → List Cue → Take
take channel drawn screen cues = record { channel = channel; drawn = drawn; screen = screen; cues = cues }

unfoldable pub blank : List ℕ
blank = replicate 960 0

-- how many frames there are so far
abbrev pub frame_count_of : Take → ℕ
frame_count_of t = pairs_of (programme_of t.cues)

-- what a step comes to: 0 and how it goes on, or a number and the earliest frame that could be kept
pub record Went : Type 0 where
  pub wrong : ℕ
  pub earliest : ℕ
  pub to : Take

abbrev pub went : ℕ → ℕ → Take → Went
went wrong earliest to = record { wrong = wrong; earliest = earliest; to = to }

-- "16,000 lines": 3 where there would be more
abbrev pub fitting_of : Take → Take → Went
fitting_of t next = pick (leb (frame_count_of next) 16000) (went 0 0 next) (went 3 0 t)

-- a frame is kept where it is not too early; 0 asks for none
abbrev pub is_kept : ℕ → ℕ → Bool
is_kept frame earliest = eqb frame 0 || leb earliest frame

-- 8 and the earliest frame for a frame that is too early
abbrev pub timed_of : Take → ℕ → ℕ → Take → Went
timed_of t frame earliest next = pick (is_kept frame earliest) (fitting_of t next) (went 8 earliest t)

-- characters side by side with one pen
abbrev pub cells_of : ℕ → List ℕ → List ℕ
cells_of pen [] = []
cells_of pen (code ∷ more) = code ∷ pen ∷ cells_of pen more

-- "rows are 1 to 15 and columns 1 to 32", the last character's too
abbrev pub is_place : ℕ → ℕ → ℕ → Bool
is_place row column count = (leb 1 row && leb row 15) && (leb 1 column && leb (column + count) 33)

-- "row by row, two bytes a cell": where a row starts
abbrev pub row_at : ℕ → ℕ
row_at row = (row - 1) * 64

-- the screen with characters in a row from a column on
unfoldable pub typed_of : List ℕ → ℕ → ℕ → ℕ → List ℕ → List ℕ
typed_of screen row column pen codes = over screen (row_at row + (column - 1) * 2) (cells_of pen codes)

-- 6 for a cell that is not valid, 7 where the row has no pen that all its cells share
unfoldable pub wrong_row_of : List ℕ → ℕ → ℕ
wrong_row_of screen at = pick (is_row screen at) (pick (is_row_writable screen at) 0 7) 6

-- 2 for a place that there is not
unfoldable pub put_of : Take → ℕ → ℕ → ℕ → List ℕ → Went
put_of t row column pen codes =
    let screen = typed_of t.screen row column pen codes in
    let wrong = pick (is_place row column (length codes)) (wrong_row_of screen (row_at row)) 2 in
    pick (eqb wrong 0) (went 0 0 (take t.channel true screen t.cues)) (went wrong 0 t)

-- how it goes on behind a step: the screen is shown, and an empty one is typed on; the display is cleared; frames pass
abbrev pub after_show_of : Take → ℕ → Take
after_show_of t held = take t.channel false blank (t.cues ++ (show t.screen t.channel held ∷ []))

abbrev pub after_clear_of : Take → ℕ → Take
after_clear_of t held = take t.channel t.drawn t.screen (t.cues ++ (wait held ∷ clear t.channel ∷ []))

abbrev pub after_wait_of : Take → ℕ → Take
after_wait_of t frames = take t.channel t.drawn t.screen (t.cues ++ (wait frames ∷ []))

-- the screen is loaded at once; its first EOC comes at the frame asked for, or as soon as it is loaded. 7 for a screen that cannot be written
unfoldable pub show_of : Take → ℕ → Went
show_of t frame =
    let earliest = frame_count_of t + pairs_of (tape_of t.screen t.channel) - 1 in
    pick (are_cells t.screen && is_writable t.screen) (timed_of t frame earliest (after_show_of t (frame - earliest))) (went 7 0 t)

-- the first EDM comes at the frame asked for, or at once
unfoldable pub clear_of : Take → ℕ → Went
clear_of t frame = let earliest = frame_count_of t + 1 in timed_of t frame earliest (after_clear_of t (frame - earliest))

unfoldable pub wait_of : Take → ℕ → Went
wait_of t frames = fitting_of t (after_wait_of t frames)

-- 9 while a screen is still to be shown, which was typed for the other; 2 for a channel that there is not
unfoldable pub switch_of : Take → ℕ → Went
switch_of t number =
    pick t.drawn (went 9 0 t) (pick (leb 1 number && leb number 2) (went 0 0 (take number false t.screen t.cues)) (went 2 0 t))
