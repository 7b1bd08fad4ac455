-- `print` meets its contract. Assumes nothing.
use Rattle.walk.specs.Walk.{place, steps_of}
use Rattle.register.proofs.Laws.{Printing}
use Rattle.register.proofs.print.Given as goal

abbrev pub invariant-loop-cells : goal.invariant-loop-cells
invariant-loop-cells g l = Printing l.reel (place l.w l.cells l.held) l.sent

abbrev pub decreases-loop-cells : goal.decreases-loop-cells
decreases-loop-cells g l = steps_of l.w
