-- The stretches of a programme's frames on channel 1, told by its cues and not by its frames; and those of captions that are each shown and cleared.
-- Paper 02, request 1: "Trainees need captions to practise on."; Paper 01, "Reel and register": "A run is a longest stretch of frames whose displayed cells are equal".
-- Assumes nothing.
use Rattle.std.specs.Prelude.{ℕ, ◌+◌, ◌-◌, List, [], ◌∷◌, eqb}
use Rattle.facts.specs.Choice.{pick}
use Rattle.wire.specs.Reel.{pairs_of}
use Rattle.lines.specs.Line.{Run, run}
use Rattle.runs.specs.Runs.{is_same, empty_screen}
use Rattle.tape.specs.Tape.{tape_of}
use Rattle.tape.specs.Programme.{Cue, show, clear, wait, cue_of, Showable}

-- what channel 1 displays behind a cue, where it displayed `screen`: nothing of the other channel
abbrev pub screen_behind : Cue → List ℕ → List ℕ
screen_behind (show memory channel held) screen = pick (eqb channel 1) memory screen
screen_behind (clear channel) screen = pick (eqb channel 1) empty_screen screen
screen_behind (wait n) screen = screen

-- the frame in which a cue of n pairs acts, behind frame `last`: it ends in EOC or EDM sent twice, and the first of the two acts
abbrev pub acts_at : ℕ → ℕ → ℕ
acts_at last n = last + n - 1

-- what stood stands up to the frame before that
abbrev pub stands_up_to : ℕ → ℕ → ℕ
stands_up_to last n = acts_at last n - 1

-- The stretches from one on that shows `screen` from frame `since` to frame `last`, with the cues behind it: one that changes what is displayed ends it,
-- any other prolongs it.
unfoldable pub turns_from : ℕ → ℕ → List ℕ → List Cue → List Run
turns_from since last screen [] = run since last screen ∷ []
turns_from since last screen (c ∷ more) =
    let n = pairs_of (cue_of c) in
    let next = screen_behind c screen in
    pick (is_same next screen) (turns_from since (last + n) screen more) (run since (stands_up_to last n) screen ∷ turns_from (acts_at last n) (last + n) next more)

-- A caption on channel 1 that stands for `hold` frames more, and, cleared, is followed by `pause` frames of nothing.
pub record Caption : Type 0 where
  pub memory : List ℕ
  pub hold : ℕ
  pub pause : ℕ

abbrev pub caption : List ℕ → ℕ → ℕ → Caption
caption memory hold pause = record { memory = memory; hold = hold; pause = pause }

abbrev pub cues_of : List Caption → List Cue
cues_of [] = []
cues_of (c ∷ cs) = show c.memory 1 0 ∷ wait c.hold ∷ clear 1 ∷ wait c.pause ∷ cues_of cs

abbrev pub AllShowable : List Caption → Type 0
AllShowable [] = Unit
AllShowable (c ∷ cs) = Showable c.memory × AllShowable cs

-- each behind the other, from the frame behind frame `last` on: from the first EOC of its tape up to the frame before the first EDM
abbrev pub caption_runs_from : ℕ → List Caption → List Run
caption_runs_from last [] = []
caption_runs_from last (c ∷ cs) =
    let n = pairs_of (tape_of c.memory 1) in
    run (acts_at last n) (last + n + c.hold) c.memory ∷ caption_runs_from (last + n + c.hold + 2 + c.pause) cs
