-- `moved` meets its contract. Assumes nothing.
use mathlib.Core.Path.{ap, sym, ◌∙◌}
use borrow.Author.Tests.{eqb-true, not-false}
use Rattle.state.specs.State.{captions}
use Rattle.state.specs.Style.{cursors}
use Rattle.placing.specs.Placing.{moved_of}
use Rattle.placing.proofs.Laws.{moved_of_same}
use Rattle.placing.proofs.moved.Goals.{then-ne, else-ne}
use Rattle.placing.proofs.moved.Goals as goal

pub returns : goal.returns
unfolding moved_of
returns c =
    let a = c.args in
    let m = a.mode in
    let p = c.requires in
    elim c.if-ne.branch [
      | then-ne w ↦ rw w.cells-is (ap (captions (cursors m a.to m.pop m.paint)) w.move_window.ensures)
      | else-ne w ↦ rw w.cells-is (sym (moved_of_same (captions m a.cells.now) p.0 a.to p.1 p.2 p.3 (eqb-true _ _ (not-false _ (sym c.ne.ensures ∙ w.if-ne.false)))))
    ]
