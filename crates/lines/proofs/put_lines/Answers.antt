-- `put_lines` meets its contract. Assumes nothing.
use mathlib.Core.Path.{◌≡◌, refl}
use Prim.Native.Nat.{◌+◌, ◌-◌, suc}
use native.Mathlib.Omega.{arith}
use Rattle.lines.specs.Line.{run, top_lines_of, row_line_of}
use Rattle.lines.proofs.Laws.{put_nothing, put_then, put_as}
use Rattle.lines.proofs.put_lines.Goals as goal

pub loop-row-init : goal.loop-row-init
unfolding top_lines_of
loop-row-init c = put_nothing c.args.out.now 0 refl

pub loop-row-preserved : goal.loop-row-preserved
unfolding top_lines_of
loop-row-preserved c =
    let a = c.args in
    let l = c.loop-row in
    let r = run a.from a.to a.screen.now in
    let one : l.row ≡ l.row - 1 + 1 = omega arith in
    let more : l.row + 1 - 1 ≡ suc (l.row - 1) = omega arith in
    rw more (put_as refl (omega arith) (put_then a.out.now (top_lines_of r (l.row - 1)) (row_line_of r (l.row - 1 + 1)) l.invariant (omega arith) (rw one at c.put_row_line-n.ensures)))
