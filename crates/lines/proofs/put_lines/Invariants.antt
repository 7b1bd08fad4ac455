-- `put_lines` meets its contract. Assumes nothing.
use Prim.Native.Nat.{◌-◌, ◌*◌}
use Rattle.lines.specs.Line.{run, top_lines_of, Put}
use Rattle.lines.proofs.put_lines.Given as goal

abbrev pub invariant-loop-row : goal.invariant-loop-row
invariant-loop-row l = Put l.initial.out (top_lines_of (run l.from l.to l.screen) (l.row - 1)) ((l.row - 1) * 80) l.out l.n
