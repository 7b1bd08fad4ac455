-- `after` meets its contract. Assumes nothing.
use mathlib.Core.Path.{sym, ◌∙◌}
use native.Mathlib.Omega.{arith}
use Rattle.wire.proofs.Laws.{line_of_line_at}
use Rattle.reel.proofs.after.Goals as goal

pub overflow_add-result : goal.overflow_add-result
overflow_add-result c =
    let a = c.args in
    omega (arith, line_of_line_at a.reel.now a.at (sym c.read_line.ensures.0 ∙ c.in-Pair.is))
