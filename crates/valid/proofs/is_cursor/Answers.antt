-- `is_cursor` meets its contract. Assumes nothing.
use mathlib.Core.Bool.{◌&&◌}
use Rattle.valid.specs.Valid.{is_cursor}
use Rattle.valid.proofs.LawsOfRanges.{contains_within}
use Rattle.valid.proofs.is_cursor.Goals as goal

pub returns : goal.returns
unfolding is_cursor
returns c =
    let at = c.args.cursor in
    let n = c.new.ensures in
    let m = c.new-2.ensures in
    let row = contains_within c.new.result 1 15 at.row.0 n.start n.end n.exhausted c.contains.ensures.value in
    let column = contains_within c.new-2.result 1 32 at.column.0 m.start m.end m.exhausted c.contains-2.ensures.value in
    λ i. row i && column i && c.is_pen.ensures i
