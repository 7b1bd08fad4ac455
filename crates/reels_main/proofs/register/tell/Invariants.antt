-- `tell` is safe and ends: each piece takes the walk on. Assumes nothing.
use Rattle.std.proofs.Common.{◌≤◌}
use Rattle.walk.specs.Walk.{place, Fit, steps_of}
use Rattle.reels_main.proofs.register.tell.Given as goal

abbrev pub invariant-loop-w : goal.invariant-loop-w
invariant-loop-w l = Fit (place l.w l.cells l.held) × (l.told.last ≤ 65536)

abbrev pub decreases-loop-w : goal.decreases-loop-w
decreases-loop-w l = steps_of l.w
