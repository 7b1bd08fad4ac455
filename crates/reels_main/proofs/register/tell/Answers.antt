-- `tell` is safe and ends: each piece takes the walk on. Assumes nothing.
use Rattle.std.proofs.Common.{sym, subst, rules}
use Rattle.walk.specs.Walk.{place, Fit}
use Rattle.walk.proofs.LawsOfSteps.{start_fit}
use Rattle.pieces.proofs.Laws.{handed_fit, handed_on}
use Rattle.reels_main.proofs.register.tell.Goals as goal

pub loop-w-init : goal.loop-w-init
loop-w-init c = (subst Fit (sym c.start-w.ensures) start_fit, search rules)

pub loop-w-smaller : goal.loop-w-smaller
loop-w-smaller c =
    let l = c.loop-w in
    handed_on (place l.w l.cells l.held) _ _ l.invariant.0 c.next_piece-p.ensures.0 (rw c.is_live.ensures at c.loop-w-test.true)

pub loop-w-preserved : goal.loop-w-preserved
loop-w-preserved c =
    let l = c.loop-w in
    let e = c.next_piece-p.ensures in
    (handed_fit (place l.w l.cells l.held) _ _ l.invariant.0 e.0, search rules)
