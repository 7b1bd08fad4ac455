-- `next_piece` meets its contract. Assumes nothing.
use Rattle.walk.specs.Walk.{place, steps_of}
use Rattle.pieces.proofs.Laws.{Going}
use Rattle.pieces.proofs.next_piece.Given as goal

abbrev pub invariant-loop-cells : goal.invariant-loop-cells
invariant-loop-cells l = Going (place l.initial.walk l.initial.cells l.initial.held) l.reel l.initial.out (place l.walk l.cells l.held) l.n l.out

abbrev pub decreases-loop-cells : goal.decreases-loop-cells
decreases-loop-cells l = steps_of l.walk
