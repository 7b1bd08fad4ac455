-- `preamble` meets its contract. Assumes nothing.
use borrow.Author.Tests.{ne_eqb}
use Rattle.typing.proofs.Laws.{turned_of-set}
use Rattle.placing.specs.Placing.{preamble_of}
use Rattle.placing.proofs.preamble.Goals as goal

pub returns : goal.returns
unfolding preamble_of
returns c = simp (ne_eqb _ _ c.if-mode-eq-ROLL_UP.false) (turned_of-set _ _ c.args.to c.with_cursor.ensures)
