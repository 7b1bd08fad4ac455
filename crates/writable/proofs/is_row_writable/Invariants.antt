-- `is_row_writable` meets its contract: the cells are tested one behind the other against the row's pen, and the pen by itself. Assumes nothing.
use mathlib.Core.Path.{◌≡◌}
use Rattle.facts.specs.Every.{every}
use Rattle.writable.proofs.LawsOfChecks.{is_shared}
use Rattle.writable.proofs.is_row_writable.Given as goal

abbrev pub invariant-loop-k : goal.invariant-loop-k
invariant-loop-k l = l.ok ≡ every (is_shared l.memory l.at l.pen) l.k
