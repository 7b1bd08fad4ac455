-- A test of every number below a bound, and what is said by it of lists of numbers.
-- Assumes nothing.
use Rattle.std.specs.Prelude.{ℕ, zero, suc, ◌+◌, Bool, true, ◌&&◌, List, eqb, get_or}

-- the test passes at each number below n (the last one outermost, as a loop comes to it)
abbrev pub every : (ℕ → Bool) → ℕ → Bool
every f zero = true
every f (suc n) = every f n && f n

-- the first n numbers of two lists are the same
unfoldable pub same_of : List ℕ → List ℕ → ℕ → Bool
same_of a b n = every (λ i. eqb (get_or a i 0) (get_or b i 0)) n

-- n numbers from place `at` on are 0
unfoldable pub blank_of : List ℕ → ℕ → ℕ → Bool
blank_of d at n = every (λ i. eqb (get_or d (at + i) 0) 0) n
