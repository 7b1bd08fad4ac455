-- What a function that writes at the front of a lent buffer promises.
-- Paper 02, request 1: "Its bytes past the pairs keep what they held."; Paper 01, "A refusal changes no byte."
-- Assumes nothing.
use Rattle.std.specs.Prelude.{◌≡◌, List, ℕ, ◌≤◌, length}
use Rattle.facts.specs.Over.{over}

-- the text stands there, every other byte is as it was, and r is its length, so that what is behind it can be lent on; `Put` of `lines` has a bound instead,
-- which is the same for every text, and here the room that a caller needs is that of the text itself
pub record Laid (out text left : List ℕ) (r : ℕ) : Type 0 where
  pub bytes : left ≡ over out 0 text
  pub next : r ≡ length text
  pub room : r ≤ length left
