-- The frames of a reel: the screen after each of its lines.
-- Paper 01, "Reel and register": "A reel is hexadecimal, one frame a line, frames from 1. The register program reads a reel .., channel 1."
-- Assumes nothing.
use Rattle.std.specs.Prelude.{List, [], ◌∷◌, ℕ, zero, suc, ◌+◌, ◌*◌, ltb}
use Rattle.facts.specs.Choice.{pick}
use Rattle.wire.specs.declared.Line.{Line}
use Rattle.wire.specs.declared.Line.TheVariants.{Pair, End, Bad}
use Rattle.wire.specs.Line.{line_at}
use Rattle.state.specs.State.{Desk}
use Rattle.decode.specs.Pair.{pair_of}
use Rattle.decode.specs.Step.{fresh_desk}
use Rattle.decode.specs.Play.{displayed_of}

-- what a desk shows
abbrev pub screen_of : Desk → List ℕ
screen_of d = displayed_of d.cells

-- a good line goes on with its pair; "A bad or unfinished line ends it", and so does the end of the input
abbrev pub on_pair : Line → (ℕ → ℕ → List (List ℕ)) → List (List ℕ)
on_pair (Pair first second) next = next first second
on_pair End next = []
on_pair Bad next = []

-- the screens of the frames behind frame `frame`, whose lines have five bytes each; at most `room` of them
unfoldable pub screens_from : ℕ → List ℕ → ℕ → Desk → List (List ℕ)
screens_from zero reel frame d = []
screens_from (suc room) reel frame d =
    on_pair (line_at reel (frame * 5)) (λ first second. screen_of (pair_of d first second) ∷ screens_from room reel (frame + 1) (pair_of d first second))

-- "16,000 lines"
abbrev pub most : ℕ
most = 16000

-- what stands behind frame `frame`: the next line, or nothing after 16,000
unfoldable pub next_of : List ℕ → ℕ → Line
next_of reel frame = pick (ltb frame most) (line_at reel (frame * 5)) End

-- the screens of a reel's frames, the first that of frame 1
unfoldable pub frames_of : List ℕ → List (List ℕ)
frames_of reel = screens_from most reel 0 fresh_desk
