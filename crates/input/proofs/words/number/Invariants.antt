-- The number of the letters so far. Assumes nothing.
use Rattle.std.proofs.Common.{◌≡◌, ℕ, ◌%◌, ◌<◌, take}
use Rattle.input.specs.Words.{decimal_of}
use Rattle.input.proofs.words.number.Given as goal

abbrev pub invariant-loop-letter : goal.invariant-loop-letter
invariant-loop-letter g l =
    (h : ℕ → ℕ) → ((letter worth : ℕ) → letter < 256 → goal.F-post g l.value letter worth → worth ≡ h letter) → l.n ≡ decimal_of h (take l.letter-index l.letters) % 4294967296
