-- A desk that takes raw bytes one pair after the other, and what is displayed behind each of them.
-- Paper 01, "Pair rules, in this order"; "Reel and register": "displayed cells".
-- Assumes nothing.
use Rattle.std.specs.Prelude.{ℕ, List, [], ◌∷◌, take}
use Rattle.state.specs.State.{Desk}
use Rattle.decode.specs.Step.{taken_of}

-- the "displayed cells", 960 bytes
unfoldable pub displayed_of : List ℕ → List ℕ
displayed_of cells = take 960 cells

-- the desk behind them
abbrev pub play_of : Desk → List ℕ → Desk
play_of d [] = d
play_of d (x ∷ []) = d
play_of d (x ∷ y ∷ more) = play_of (taken_of d x y) more

-- what is displayed behind each pair
abbrev pub film_of : Desk → List ℕ → List (List ℕ)
film_of d [] = []
film_of d (x ∷ []) = []
film_of d (x ∷ y ∷ more) = displayed_of (taken_of d x y).cells ∷ film_of (taken_of d x y) more
