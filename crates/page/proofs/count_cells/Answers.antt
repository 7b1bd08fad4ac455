-- `count_cells` meets its contract: two bytes a cell. Assumes nothing.
use native.Mathlib.Omega.{arith}
use Rattle.std.proofs.lemmas.Grind.{common_steps}
use Rattle.page.proofs.LawsOfCounts.{filled_from_byte}
use Rattle.page.proofs.count_cells.Goals as goal

pub loop-i-preserved : goal.loop-i-preserved
loop-i-preserved c =
    let a = c.args in
    (omega arith, filled_from_byte a.cells.now a.at c.loop-i.i c.loop-i.invariant.1 (grind (arith, common_steps)))
