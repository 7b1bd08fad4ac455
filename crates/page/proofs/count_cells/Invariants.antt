-- `count_cells` meets its contract: two bytes a cell. Assumes nothing.
use mathlib.Core.Path.{◌≡◌}
use Prim.Native.Nat.{◌+◌, ◌/◌, ◌≤◌}
use Rattle.page.specs.Page.{filled_from}
use Rattle.page.proofs.count_cells.Given as goal

abbrev pub invariant-loop-i : goal.invariant-loop-i
invariant-loop-i l = (l.sum ≤ l.i) × (l.sum ≡ filled_from l.cells l.at ((l.i + 1) / 2))
