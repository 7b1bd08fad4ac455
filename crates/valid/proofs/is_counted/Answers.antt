-- `is_counted` meets its contract: an empty row counts 0, and any other is tested and counted. Assumes nothing.
use mathlib.Core.Path.{sym, ◌∙◌}
use mathlib.Core.Bool.{◌&&◌}
use lib.Dec.{eqb}
use Rattle.valid.specs.Check.{is_counted}
use Rattle.valid.proofs.Rows.{blank-is_counted}
use Rattle.valid.proofs.is_counted.Goals as goal

pub returns-then-is_blank : goal.returns-then-is_blank
returns-then-is_blank c =
    let a = c.args in
    blank-is_counted a.bytes.now a.at a.count (sym c.is_blank.ensures ∙ c.if-is_blank.true)

pub returns : goal.returns
unfolding is_counted
returns c =
    let a = c.args in
    λ i. c.is_row.ensures i && eqb a.count (c.count_cells.ensures i)
