-- `print_pairs` is safe: each second byte counts at most one line. Assumes nothing.
use Prim.Native.Nat.{◌+◌, ◌≤◌}
use Rattle.codes_main.proofs.print_pairs.Given as goal

abbrev pub invariant-loop-b : goal.invariant-loop-b
invariant-loop-b g l = l.n + 0x20 ≤ l.b
