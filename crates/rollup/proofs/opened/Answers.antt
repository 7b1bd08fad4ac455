-- `opened` meets its contract. Assumes nothing.
use borrow.Author.Tests.{ne_eqb}
use Rattle.state.specs.State.{captions}
use Rattle.rollup.proofs.Laws.{marked, deepened_placed, deepened_fits}
use Rattle.rollup.proofs.opened.Goals as goal

pub moved-requires : goal.moved-requires
moved-requires c =
    let d = captions c.args.mode c.args.cells.now in
    let h = c.requires.0 in
    let set = marked d h (ne_eqb d.mode.mark 0 c.if-mode-eq0.false) in
    rw c.lowered.ensures (h, deepened_placed d h _ c.requires.1, set, deepened_fits d h _ set)
