-- What `contains` tells of a range with both its ends is the test of the paper's ranges, and what that says. Assumes nothing.
use mathlib.Core.Path.{◌≡◌, sym, ◌∙◌}
use mathlib.Core.Bool.{Bool, true, false}
use native.Mathlib.Omega.{arith}
use Prim.Native.Nat.{ℕ, ◌<◌, ◌≤◌}
use lib.Dec.{leb}
use borrow.Author.Tests.{leb-true, le-leb, lt-leb}
use Rattle.std.proofs.Common.{Ordering, Less, Equal, Greater}
use Rattle.std.specs.Cmp.{ranks}
use Rattle.std.specs.Ordering.{MatchOrdering, nat_cmp, is_le, as_partial_cmp}
use Rattle.std.specs.declared.ops.RangeInclusive.{RangeInclusive}
use Rattle.std.specs.Range.{range_inclusive_start, range_inclusive_end, range_inclusive_exhausted, range_inclusive_contains}
use Rattle.facts.proofs.Choice.{and_left, and_right}
use Rattle.valid.specs.Valid.{is_within}

is_le_is : (a b : ℕ) → is_le (nat_cmp a b) ≡ leb a b
is_le_is a b = go (nat_cmp a b) (ranks a b)
  where
    go : (o : Ordering) → MatchOrdering o (a < b) (a ≡ b) (b < a) → is_le o ≡ leb a b
    go Less h = sym (le-leb a b (omega arith))
    go Equal h = sym (le-leb a b (omega arith))
    go Greater h = sym (lt-leb a b h)

-- the range low..=high, not gone through yet
pub contains_within : (r : RangeInclusive ℕ) (low high n : ℕ) → range_inclusive_start r ≡ low → range_inclusive_end r ≡ high → range_inclusive_exhausted r ≡ false
    → {told : Bool} → told ≡ range_inclusive_contains (as_partial_cmp nat_cmp) r n → told ≡ is_within low high n
contains_within r low high n s e x t = t ∙ simp (s, e, x, is_le_is)

-- and what such a test says
pub within_low : (low high n : ℕ) → is_within low high n ≡ true → low ≤ n
within_low low high n e = leb-true low n (and_left (leb low n) (leb n high) e)

pub within_high : (low high n : ℕ) → is_within low high n ≡ true → n ≤ high
within_high low high n e = leb-true n high (and_right (leb low n) (leb n high) e)
