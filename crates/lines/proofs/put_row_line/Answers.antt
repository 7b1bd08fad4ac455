-- `put_row_line` meets its contract. Assumes nothing.
use mathlib.Core.Path.{sym, ◌∙◌}
use Rattle.lines.specs.Line.{run}
use Rattle.lines.proofs.Lemmas.{row_nothing, row_line}
use Rattle.lines.proofs.put_row_line.Goals as goal

pub returns-then-end-eq0 : goal.returns-then-end-eq0
returns-then-end-eq0 c =
    let a = c.args in
    let end = rw c.row_address-at.ensures.0 at c.end-end.ensures.0 in
    row_nothing a.out.now (run a.from a.to a.screen.now) a.row.0 (sym end ∙ c.if-end-eq0.true)

pub returns : goal.returns
returns c =
    let a = c.args in
    let at = c.row_address-at.ensures.0 in
    row_line a.out.now (run a.from a.to a.screen.now) a.row.0 c.lead-lead.result c.end-end.result (rw at at c.lead-lead.ensures.0) (rw at at c.end-end.ensures.0) c.if-end-eq0.false
    c.requires.0 c.put_head.ensures (rw at at c.put_codes-n.ensures)
