-- `is_row` meets its contract: an empty row is 32 cells that are allowed, and any other is tested cell by cell. Assumes nothing.
use mathlib.Core.Path.{◌≡◌}
use Rattle.facts.specs.Every.{every}
use Rattle.valid.specs.Valid.{is_cell_at}
use Rattle.valid.proofs.is_row.Given as goal

abbrev pub invariant-loop-j : goal.invariant-loop-j
invariant-loop-j l = l.ok ≡ every (is_cell_at l.bytes l.at) l.j
