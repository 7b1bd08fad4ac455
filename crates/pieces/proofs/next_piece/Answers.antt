-- `next_piece` meets its contract. Assumes nothing.
use mathlib.Core.Path.{sym, ◌∙◌}
use native.Mathlib.Omega.{arith}
use Prim.Native.Nat.{◌-◌}
use Rattle.facts.proofs.Over.{length-part}
use Rattle.walk.specs.Walk.{place}
use Rattle.pieces.proofs.Laws.{is_on_live, is_on-room, going_start, going_more, going_less, going_end}
use Rattle.pieces.proofs.next_piece.Goals as goal

pub loop-cells-init : goal.loop-cells-init
loop-cells-init c =
    let a = c.args in
    going_start (place a.w a.cells.now a.held.now) a.reel.now a.out.now (omega arith) c.requires

pub step-piece-requires : goal.step-piece-requires
step-piece-requires c =
    let l = c.loop-cells in
    let on = sym c.is_on.ensures ∙ c.loop-cells-test.true in
    (l.invariant.fit, is_on_live _ _ on, omega (arith, is_on-room _ _ on, length-part l.out l.n (65536 - l.n) (omega arith)))

pub loop-cells-smaller : goal.loop-cells-smaller
loop-cells-smaller c =
    let l = c.loop-cells in
    going_less c.args.reel.now l.n l.invariant (sym c.is_on.ensures ∙ c.loop-cells-test.true) c.step-piece.ensures.0

pub loop-cells-preserved : goal.loop-cells-preserved
loop-cells-preserved c =
    let l = c.loop-cells in
    going_more c.args.reel.now l.n l.invariant (sym c.is_on.ensures ∙ c.loop-cells-test.true) c.step-piece.ensures.0 c.step-piece.ensures.1

pub returns : goal.returns
returns c =
    let l = c.loop-cells in
    (going_end c.args.reel.now l.n l.invariant (sym c.is_on.ensures ∙ c.loop-cells-test.false), l.invariant.small, l.invariant.full)
