-- A reader walks a reel line by line: where it goes next, and what it gives when it is asked again and again.
-- Paper 01, "Record, log, tray": "A reader walks a lent reel from its first line without copying it. At its end it gives 0 and no pair; on 5 it stays."
-- Assumes nothing.
use Rattle.std.specs.Prelude.{List, [], ◌∷◌, ◌++◌, ℕ, zero, suc, ◌+◌, ◌<◌, replicate}
use Rattle.wire.specs.declared.Line.{Line}
use Rattle.wire.specs.declared.Line.TheVariants.{Pair, End, Bad}
use Rattle.wire.specs.Line.{line_at, line_of}

-- past a frame line of five bytes; at the end and on 5 "it stays"
abbrev pub past : Line → ℕ → ℕ
past (Pair first second) at = at + 5
past End at = at
past Bad at = at

unfoldable pub after_of : List ℕ → ℕ → ℕ
after_of reel at = past (line_at reel at) at

-- what a reader that stands at a place gives when it is asked n times
unfoldable pub walk_of : List ℕ → ℕ → ℕ → List Line
walk_of reel at zero = []
walk_of reel at (suc n) = line_at reel at ∷ walk_of reel (after_of reel at) n

-- "one frame a line": the reel of some pairs
unfoldable pub reel_of : List (ℕ × ℕ) → List ℕ
reel_of [] = []
reel_of (p ∷ ps) = line_of p.0 p.1 ++ reel_of ps

-- each is a pair of bytes
abbrev pub Bytes : List (ℕ × ℕ) → Type 0
Bytes [] = Unit
Bytes (p ∷ ps) = (p.0 < 256) × (p.1 < 256) × Bytes ps

-- the pairs in order, and then the end as often as it is asked for
abbrev pub in_order : List (ℕ × ℕ) → ℕ → List Line
in_order [] n = replicate n End
in_order (p ∷ ps) n = Pair p.0 p.1 ∷ in_order ps n
