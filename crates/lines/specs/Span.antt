-- Which cells of a row the register prints: from the first to the last non-empty one.
-- Paper 01, "Reel and register": "cell codes .. from the first to the last non-empty cell"; docs/DECISIONS.md, "Register".
-- Assumes nothing.
use Rattle.std.specs.Prelude.{◌&&◌, List, ℕ, zero, suc, ◌+◌, ◌*◌, eqb, get_or}
use Rattle.facts.specs.Choice.{pick}

-- the code of cell k from place `at` on, two bytes a cell, code then pen
abbrev pub code_at : List ℕ → ℕ → ℕ → ℕ
code_at s at k = get_or s (at + k * 2) 0

-- how the two ends of what is printed move on over cell k, by its code
unfoldable pub lead_more_of : ℕ → ℕ → ℕ → ℕ
lead_more_of lead k code = pick (eqb code 0 && eqb lead k) (k + 1) lead

unfoldable pub end_more_of : ℕ → ℕ → ℕ → ℕ
end_more_of end k code = pick (eqb code 0) end (k + 1)

-- of the first n cells, how many stand before the first non-empty one
unfoldable pub lead_of : List ℕ → ℕ → ℕ → ℕ
lead_of s at zero = 0
lead_of s at (suc n) = lead_more_of (lead_of s at n) n (code_at s at n)

-- of the first n cells, how many stand up to the last non-empty one; 0 where there is none
unfoldable pub end_of : List ℕ → ℕ → ℕ → ℕ
end_of s at zero = 0
end_of s at (suc n) = end_more_of (end_of s at n) n (code_at s at n)
