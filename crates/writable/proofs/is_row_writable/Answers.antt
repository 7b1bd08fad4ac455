-- `is_row_writable` meets its contract: the cells are tested one behind the other against the row's pen, and the pen by itself. Assumes nothing.
use mathlib.Core.Path.{◌≡◌, ap, ◌∙◌}
use mathlib.Core.Bool.{◌&&◌}
use native.Mathlib.Omega.{arith}
use Rattle.facts.specs.Every.{every}
use Rattle.facts.proofs.Every.{every_more}
use Rattle.writable.proofs.LawsOfChecks.{is_shared, row_joined}
use Rattle.writable.proofs.is_row_writable.Goals as goal

pub loop-k-preserved : goal.loop-k-preserved
loop-k-preserved c =
    let a = c.args in
    let ok = c.loop-k.ok in
    ap (λ t. ok && t) c.is_cell_of-ok.ensures ∙ every_more (is_shared a.memory.now a.at c.row_pen-pen.result) c.loop-k.k c.loop-k.invariant

pub returns : goal.returns
returns c =
    let a = c.args in
    let test = is_shared a.memory.now a.at c.row_pen-pen.result in
    let e : c.loop-k.k ≡ 32 = omega arith in
    row_joined a.memory.now a.at c.row_pen-pen.ensures c.is_steady.ensures (c.loop-k.invariant ∙ ap (every test) e)
