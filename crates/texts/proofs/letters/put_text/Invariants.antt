-- `put_text` meets its contract. Assumes nothing.
use Prim.Native.Nat.{◌≤◌}
use lib.ListN.{length}
use Rattle.texts.proofs.letters.put_text.Given as goal

abbrev pub invariant-loop-first : goal.invariant-loop-first
invariant-loop-first l = l.n ≤ 33

abbrev pub decreases-loop-first : goal.decreases-loop-first
decreases-loop-first l = length l.text
