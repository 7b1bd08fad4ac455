-- `tabbed` meets its contract. Assumes nothing.
use Rattle.cell.specs.Cursor.{tab_of}
use Rattle.state.specs.Style.{cursor_of}
use Rattle.typing.proofs.Laws.{turned_of-set}
use Rattle.placing.specs.Placing.{tabbed_of}
use Rattle.placing.proofs.tabbed.Goals as goal

pub returns : goal.returns
unfolding tabbed_of
returns c =
    let a = c.args in
    λ d. turned_of-set a.mode d (tab_of (cursor_of a.mode) a.n) (rw (c.with_cursor.ensures, c.tab.ensures, c.cursor.ensures.0))
