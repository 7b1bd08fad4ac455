-- `read` meets its contract. Assumes nothing.
use Prim.Native.Nat.{◌≤◌}
use Rattle.texts.proofs.read.Given as goal

abbrev pub invariant-loop-i : goal.invariant-loop-i
invariant-loop-i l =
    (goal.iterator-loop-i).can_next l.i-iterator × (goal.iterator-loop-i).is_finite l.i-iterator × (l.steps ≤ 8192)
