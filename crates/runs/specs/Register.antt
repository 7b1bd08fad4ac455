-- The register of a reel, from its bytes to the whole text.
-- Paper 01, "Reel and register"; docs/DECISIONS.md, "Register" and "Lines".
-- Assumes nothing.
use Rattle.std.specs.Prelude.{List, [], ◌∷◌, ◌++◌, ℕ, ◌+◌, ◌*◌, eqb, leb, length}
use Rattle.facts.specs.Choice.{pick}
use Rattle.lines.specs.Line.{header, Run, lines_of, refused_of}
use Rattle.runs.specs.Frames.{most, frames_of}
use Rattle.runs.specs.Runs.{runs_of}

-- "For each run, in order of frames, .. a line"
unfoldable pub text_of : List Run → List ℕ
text_of [] = []
text_of (r ∷ rs) = lines_of r ++ text_of rs

-- behind n good frames of a reel of `size` bytes: nothing where it ends there; else "`refused`, its frame, the number": 5 for a bad line, 3 for "Bytes after 16,000 lines"
unfoldable pub refusal_of : ℕ → ℕ → List ℕ
refusal_of size n = pick (leb size (n * 5)) [] (refused_of (n + 1) (pick (eqb n most) 3 5))

unfoldable pub register_of : List ℕ → List ℕ
register_of reel = header ++ (text_of (runs_of (frames_of reel)) ++ refusal_of (length reel) (length (frames_of reel)))
