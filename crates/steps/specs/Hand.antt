-- What the code has in hand between two steps, and what it says of a take: how each function of a step is promised.
-- Paper 02, request 1: "Trainees need captions to practise on."; Paper 01, "Reel and register": "one frame a line"; docs/TAPES.md.
-- Assumes nothing.
use Rattle.std.specs.Prelude.{◌≡◌, Bool, List, ℕ, ◌+◌, ◌-◌, ◌≤◌, Option, Result, Ok, Err, leb}
use Rattle.facts.specs.Choice.{pick}
use Rattle.facts.specs.Over.{over}
use Rattle.wire.specs.Reel.{pairs_of, reel_of_raw}
use Rattle.tape.specs.declared.Channel.{Channel}
use Rattle.tape.specs.Channel.{number_of_channel}
use Rattle.tape.specs.Programme.{Cue, programme_of}
use Rattle.steps.specs.declared.Hand.{Hand}
use Rattle.steps.specs.declared.Wrong.{Wrong}
use Rattle.steps.specs.declared.Wrong.TheVariants.{TooManyFrames, TooEarly}
use Rattle.steps.specs.Take.{Take, take, Went, went, is_kept}
use Rattle.steps.specs.Wrong.{number_of_wrong, earliest_of, wrong_of}

abbrev pub hand : Channel → Bool → ℕ → Hand
hand channel drawn frames = record { channel = channel; drawn = drawn; frames = frames }

-- what every step asks and keeps
pub record Fit (h : Hand) : Type 0 where
  pub room : h.frames ≤ 16000

-- what is in hand behind a step; nothing is done where one is wrong
abbrev pub hand_of : Hand → Result Hand Wrong → Hand
hand_of h (Ok next) = next
hand_of h (Err wrong) = h

-- the take, with the screen, which is lent, and the cues so far
abbrev pub take_of : Hand → List ℕ → List Cue → Take
take_of h screen cues = take (number_of_channel h.channel) h.drawn screen cues

-- what the last step came to
abbrev pub went_of : Hand → Option Wrong → List ℕ → List Cue → Went
went_of h wrong screen cues = went (number_of_wrong wrong) (earliest_of wrong) (take_of h screen cues)

-- the code keeps no cues: it counts their frames, and has their lines over the front of a reel
pub record Stands (h : Hand) (cues : List Cue) (first out : List ℕ) : Type 0 where
  pub frames : h.frames ≡ pairs_of (programme_of cues)
  pub lines : out ≡ over first 0 (reel_of_raw (programme_of cues))

-- the hand, what is wrong, the screen and the reel are those of what a step came to
pub record Goes (w : Went) (h : Hand) (wrong : Option Wrong) (screen first out : List ℕ) : Type 0 where
  pub same : went_of h wrong screen w.to.cues ≡ w
  pub stands : Stands h w.to.cues first out

-- whatever the cues so far, f leads from the first hand, screen and reel to what is given back and to the second screen and reel
abbrev pub Does : (Take → Went) → Hand → List ℕ → List ℕ → Result Hand Wrong → List ℕ → List ℕ → Type 0
Does f h screen out r screen₁ out₁ =
    (cues : List Cue) (first : List ℕ) → Stands h cues first out → Goes (f (take_of h screen cues)) (hand_of h r) (wrong_of r) screen₁ first out₁

-- how long a cue of so many pairs is held so that its last pair but one comes at a frame, or why it cannot be
unfoldable pub plan_of : ℕ → ℕ → ℕ → Result ℕ Wrong
plan_of frames pairs frame =
    let earliest = frames + pairs - 1 in
    let held = frame - earliest in
    pick (is_kept frame earliest) (pick (leb (frames + pairs + held) 16000) (Ok held) (Err TooManyFrames)) (Err (TooEarly earliest))
