-- The reel of raw bytes, two a pair: how many pairs they are, and the frame lines that say them.
-- Paper 01, "Reel and register": "A reel is hexadecimal, one frame a line, frames from 1."
-- Assumes nothing.
use Rattle.std.specs.Prelude.{ℕ, suc, ◌<◌, List, [], ◌∷◌, ◌++◌}
use Rattle.wire.specs.Line.{line_of}

-- whole pairs, of bytes
abbrev pub Pairs : List ℕ → Type 0
Pairs [] = Unit
Pairs (x ∷ []) = ⊥
Pairs (x ∷ y ∷ more) = (x < 256) × (y < 256) × Pairs more

-- how many pairs raw bytes have; a byte without a second is none
abbrev pub pairs_of : List ℕ → ℕ
pairs_of [] = 0
pairs_of (x ∷ []) = 0
pairs_of (x ∷ y ∷ more) = suc (pairs_of more)

-- "one frame a line"
abbrev pub reel_of_raw : List ℕ → List ℕ
reel_of_raw [] = []
reel_of_raw (x ∷ []) = []
reel_of_raw (x ∷ y ∷ more) = line_of x y ++ reel_of_raw more
