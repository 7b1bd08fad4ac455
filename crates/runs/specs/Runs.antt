-- The runs of a list of screens: the longest stretches of frames that show the same, but for those that show nothing.
-- Paper 01, "Reel and register": "A run is a longest stretch of frames whose displayed cells are equal in every byte and not all empty."
-- Assumes nothing.
use Rattle.std.specs.Prelude.{Bool, true, false, not, ◌&&◌, List, [], ◌∷◌, ℕ, ◌+◌, eqb, replicate}
use Rattle.facts.specs.Choice.{pick}
use Rattle.lines.specs.Line.{Run, run}

-- "equal in every byte"
abbrev pub is_same : List ℕ → List ℕ → Bool
is_same [] [] = true
is_same [] (y ∷ b) = false
is_same (x ∷ a) [] = false
is_same (x ∷ a) (y ∷ b) = eqb x y && is_same a b

-- the stretches of equal screens from a stretch on that shows `screen` from frame `since` to frame `last`, with the screens of the frames behind it
unfoldable pub stretches_from : ℕ → ℕ → List ℕ → List (List ℕ) → List Run
stretches_from since last screen [] = run since last screen ∷ []
stretches_from since last screen (s ∷ ss) =
    pick (is_same s screen) (stretches_from since (last + 1) screen ss) (run since last screen ∷ stretches_from (last + 1) (last + 1) s ss)

-- 480 empty cells of two bytes: what a fresh desk shows
abbrev pub empty_screen : List ℕ
empty_screen = replicate 960 0

-- "not all empty"
abbrev pub is_seen : List ℕ → Bool
is_seen screen = not (is_same screen empty_screen)

abbrev pub seen_of : List Run → List Run
seen_of [] = []
seen_of (r ∷ rs) = pick (is_seen r.screen) (r ∷ seen_of rs) (seen_of rs)

-- before frame 1 the desk is fresh and shows nothing, as if for a frame 0
unfoldable pub runs_of : List (List ℕ) → List Run
runs_of ss = seen_of (stretches_from 0 0 empty_screen ss)
