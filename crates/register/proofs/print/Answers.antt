-- `print` meets its contract. Assumes nothing.
use native.Mathlib.Omega.{arith}
use lib.Seq.{length-take-le}
use Rattle.register.proofs.Laws.{printing_start, printing_less, printing_on, printing_end}
use Rattle.register.proofs.print.Goals as goal

pub loop-cells-init : goal.loop-cells-init
loop-cells-init g c = printing_start c.args.reel.now c.start-w.ensures

pub send-requires : goal.send-requires
send-requires g c =
    let l = c.loop-cells in
    let small = l.invariant.small in
    let e = c.next_piece-p.ensures in
    let less = printing_less _ _ l.invariant (rw c.is_live.ensures at c.loop-cells-test.true) e.0 in
    let m = length-take-le c.next_piece-p.result.n c.next_piece-p.new.out (omega (arith, e.1, e.2)) in
    omega (arith, m, e.1, less)

pub loop-cells-smaller : goal.loop-cells-smaller
loop-cells-smaller g c = printing_less _ _ c.loop-cells.invariant (rw c.is_live.ensures at c.loop-cells-test.true) c.next_piece-p.ensures.0

pub loop-cells-preserved : goal.loop-cells-preserved
loop-cells-preserved g c =
    let e = c.next_piece-p.ensures in
    printing_on _ _ c.loop-cells.invariant (rw c.is_live.ensures at c.loop-cells-test.true) e.0 (e.1, e.2) c.in_ok-sent.ensures

pub returns : goal.returns
returns g c = printing_end _ c.loop-cells.invariant (rw c.is_live.ensures at c.loop-cells-test.false)
