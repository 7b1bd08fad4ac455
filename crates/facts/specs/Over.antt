-- A list written over from a place on, and a part of a list: what every operation on lent bytes is made of.
-- Assumes nothing.
use Rattle.std.specs.Prelude.{ℕ, zero, suc, List, [], ◌∷◌, take, drop}

-- d with s from place `at` on; what would stand past the end of d is lost, so d keeps its length
abbrev pub over : List ℕ → ℕ → List ℕ → List ℕ
over [] at s = []
over (x ∷ d) (suc at) s = x ∷ over d at s
over (x ∷ d) zero [] = x ∷ d
over (x ∷ d) zero (v ∷ s) = v ∷ over d zero s

-- n numbers of d from place `from` on
abbrev pub part : List ℕ → ℕ → ℕ → List ℕ
part d from n = take n (drop from d)

-- the first n numbers and the n behind them change places
abbrev pub exchange_of : List ℕ → ℕ → List ℕ
exchange_of d n = over (over d 0 (part d n n)) n (part d 0 n)
