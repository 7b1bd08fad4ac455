-- The paper's sentence about runs, clause by clause, as facts about any list of runs: no program stands in it.
-- Paper 01, "Reel and register": "A run is a longest stretch of frames whose displayed cells are equal in every byte and not all empty. .. For each run, in order of frames".
-- Assumes nothing.
use Rattle.std.specs.Prelude.{◌≡◌, ◌⊎◌, List, [], ◌∷◌, ℕ, zero, suc, ◌+◌, ◌-◌, ◌≤◌, ◌<◌, length, get_or}
use Rattle.lines.specs.Line.{Run}
use Rattle.runs.specs.Runs.{empty_screen}

-- "frames from 1": the screen of a frame; before frame 1 nothing is shown
abbrev pub screen_at : List (List ℕ) → ℕ → List ℕ
screen_at ss zero = empty_screen
screen_at ss (suc k) = get_or ss k []

-- a stretch of frames that show the same, and "longest": neither the frame before it nor the one behind it shows the same
pub record IsStretch (ss : List (List ℕ)) (r : Run) : Type 0 where
  pub order : r.from ≤ r.to
  pub last : r.to ≤ length ss
  pub equal : (k : ℕ) → r.from ≤ k → k ≤ r.to → screen_at ss k ≡ r.screen
  pub before : 1 ≤ r.from → screen_at ss (r.from - 1) ≡ r.screen → ⊥
  pub behind : r.to < length ss → screen_at ss (r.to + 1) ≡ r.screen → ⊥

-- a run is such a stretch, from frame 1 on, "and not all empty"
pub record IsRun (ss : List (List ℕ)) (r : Run) : Type 0 where
  pub stretch : IsStretch ss r
  pub first : 1 ≤ r.from
  pub seen : r.screen ≡ empty_screen → ⊥

-- P of every run in a list, and of exactly one
abbrev pub All : (Run → Type 0) → List Run → Type 0
All P [] = Unit
All P (r ∷ rs) = P r × All P rs

abbrev pub One : (Run → Type 0) → List Run → Type 0
One P [] = ⊥
One P (r ∷ rs) = (P r × All (λ q. P q → ⊥) rs) ⊎ ((P r → ⊥) × One P rs)

-- "in order of frames", and apart: each ends before any later one begins
abbrev pub Ordered : List Run → Type 0
Ordered [] = Unit
Ordered (r ∷ rs) = All (λ q. r.to < q.from) rs × Ordered rs

-- frame k lies in a run
abbrev pub Within : ℕ → Run → Type 0
Within k r = (r.from ≤ k) × (k ≤ r.to)
