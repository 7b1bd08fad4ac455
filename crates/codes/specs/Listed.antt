-- What a list of numbers and their meanings says of a number.
-- Paper 01, "Codes": its lists of bytes, as "20h RCL, 21h BS" and "11h 1, 2; 12h 3, 4".
-- Assumes nothing.
use Rattle.std.specs.Prelude.{ℕ, List, [], ◌∷◌, eqb}
use Rattle.facts.specs.Choice.{pick}

-- what stands beside n in the list, or `other` where n is not listed
abbrev pub listed : {A : Type 0} → List (ℕ × A) → A → ℕ → A
listed [] other n = other
listed (entry ∷ more) other n = pick (eqb n entry.0) entry.1 (listed more other n)
