-- `main` is safe: each first byte counts at most 96 lines. Assumes nothing.
use Prim.Native.Nat.{◌-◌, ◌*◌, ◌≤◌}
use Rattle.codes_main.proofs.main.Given as goal

abbrev pub invariant-loop-a : goal.invariant-loop-a
invariant-loop-a l = l.n ≤ (l.a - 0x10) * 96
