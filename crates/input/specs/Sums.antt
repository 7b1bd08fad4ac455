-- The sum by which the programs that run the edges of Paper 01 tell what a buffer holds. Assumes nothing.
use Rattle.std.specs.Prelude.{ℕ, ◌+◌, ◌*◌, ◌%◌, List}
use Rattle.std.specs.List.{fold}

-- the number whose digits in base 256 are those of `before`, and the bytes behind them
abbrev pub number_from : ℕ → List ℕ → ℕ
number_from before bytes = fold (λ n b. n * 256 + b) before bytes

-- modulo 4,294,967,291, the largest prime below 2 ^ 32
abbrev pub sum_from : ℕ → List ℕ → ℕ
sum_from before bytes = number_from before bytes % 4294967291
