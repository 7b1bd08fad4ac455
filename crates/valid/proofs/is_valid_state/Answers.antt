-- `is_valid_state` meets its contract. Assumes nothing.
use mathlib.Core.Bool.{◌&&◌, ◌||◌}
use lib.Dec.{eqb, leb}
use Rattle.facts.proofs.Choice.{not_or}
use Rattle.valid.specs.Valid.{is_valid_state}
use Rattle.valid.proofs.LawsOfRanges.{contains_within}
use Rattle.valid.proofs.is_valid_state.Goals as goal

pub returns : goal.returns
unfolding is_valid_state
returns c =
    let s = c.args.state in
    let m = s.mode in
    let n = c.new.ensures in
    let k = c.new-2.ensures in
    let deep = contains_within c.new.result 2 4 m.depth n.start n.end n.exhausted c.contains-deep.ensures.value in
    let selected = contains_within c.new-2.result 1 2 s.selected k.start k.end k.exhausted c.contains.ensures.value in
    λ i. leb s.acts 16000 && selected i && leb s.stream 2 && leb m.style 3 && leb m.text 1 && leb m.mark 1
    && (eqb m.depth 0 || deep i) && c.is_cursor.ensures i && c.is_cursor-2.ensures i && c.is_cursor-3.ensures i && c.is_expected.ensures i
    && not_or (eqb m.mark 1) (deep i) i && not_or (eqb m.mark 1) (leb m.depth m.roll.row.0) i
    && not_or (eqb m.style 1) (eqb m.mark 1) i && not_or (eqb m.style 3) (eqb m.mark 0) i
