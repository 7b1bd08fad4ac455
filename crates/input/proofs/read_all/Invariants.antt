-- `read_all` meets its contract. Assumes nothing.
use Prim.Native.Nat.{◌-◌, ◌≤◌}
use lib.ListN.{length}
use Rattle.input.proofs.read_all.Given as goal

abbrev pub invariant-loop-n : goal.invariant-loop-n
invariant-loop-n g l = l.n ≤ length l.into

-- each turn but the last brings a byte at least
abbrev pub decreases-loop-n : goal.decreases-loop-n
decreases-loop-n g l = length l.into - l.n
