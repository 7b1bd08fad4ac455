-- How the programs that run the edges of Paper 01 read their text: cut at a letter, and a number by its digits. Assumes nothing.
use Rattle.std.specs.Prelude.{ℕ, ◌≡◌, ◌≢◌, ◌+◌, ◌*◌, ◌<◌, List, ◌∷◌, ◌++◌, length, slice_index}
use Rattle.std.specs.List.{fold}

-- no letter of the text is this one
abbrev pub Lacks : ℕ → List ℕ → Type 0
Lacks letter text = (k : ℕ) → k < length text → slice_index text k ≢ letter

-- the text is the part before its first such letter, the letter, and the part behind it
abbrev pub IsCut : ℕ → List ℕ → List ℕ → List ℕ → Type 0
IsCut letter text before behind = Lacks letter before × (text ≡ before ++ letter ∷ behind)

-- the number whose digits in base 10 are what the letters are worth
abbrev pub decimal_of : (ℕ → ℕ) → List ℕ → ℕ
decimal_of worth letters = fold (λ n b. n * 10 + worth b) 0 letters
