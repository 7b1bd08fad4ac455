-- `put_cells` meets its contract. Assumes nothing.
use native.Mathlib.Omega.{arith}
use Rattle.steps.proofs.LawsOfCells.{typed_more, typed_all}
use Rattle.steps.proofs.cells.put_cells.Goals as goal

pub loop-i-preserved : goal.loop-i-preserved
loop-i-preserved c =
    let a = c.args in
    typed_more a.screen.now a.at a.pen a.codes.now c.loop-i.i (omega arith) c.loop-i.invariant

pub returns : goal.returns
returns c =
    let a = c.args in
    typed_all a.screen.now a.at a.pen a.codes.now (omega arith) c.loop-i.invariant
