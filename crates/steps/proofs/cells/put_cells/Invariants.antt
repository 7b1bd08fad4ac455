-- `put_cells` meets its contract. Assumes nothing.
use Rattle.steps.proofs.LawsOfCells.{Typed}
use Rattle.steps.proofs.cells.put_cells.Given as goal

abbrev pub invariant-loop-i : goal.invariant-loop-i
invariant-loop-i l = Typed l.initial.screen l.at l.pen l.codes l.screen l.i
