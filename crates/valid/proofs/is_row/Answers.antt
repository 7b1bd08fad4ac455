-- `is_row` meets its contract: an empty row is 32 cells that are allowed, and any other is tested cell by cell. Assumes nothing.
use mathlib.Core.Path.{◌≡◌, ap, sym, ◌∙◌}
use mathlib.Core.Bool.{◌&&◌}
use native.Mathlib.Omega.{arith}
use Rattle.facts.specs.Every.{every}
use Rattle.facts.proofs.Every.{every_more}
use Rattle.valid.specs.Valid.{is_cell_at}
use Rattle.valid.specs.Check.{is_row}
use Rattle.valid.proofs.Rows.{blank-is_row}
use Rattle.valid.proofs.is_row.Goals as goal

pub returns-then-is_blank : goal.returns-then-is_blank
returns-then-is_blank c =
    let a = c.args in
    sym (blank-is_row a.bytes.now a.at (sym c.is_blank.ensures ∙ c.if-is_blank.true))

pub loop-j-preserved : goal.loop-j-preserved
loop-j-preserved c =
    let a = c.args in
    let ok = c.loop-j.ok in
    ap (λ t. ok && t) c.is_cell-ok.ensures ∙ every_more (is_cell_at a.bytes.now a.at) c.loop-j.j c.loop-j.invariant

pub returns : goal.returns
unfolding is_row
returns c =
    let a = c.args in
    let e : c.loop-j.j ≡ 32 = omega arith in
    c.loop-j.invariant ∙ ap (every (is_cell_at a.bytes.now a.at)) e
