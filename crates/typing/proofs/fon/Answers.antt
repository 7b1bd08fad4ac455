-- `fon` meets its contract. Assumes nothing.
use Rattle.cell.proofs.Laws.{is_pen-flash_pen_of}
use Rattle.typing.proofs.fon.Goals as goal

pub attribute-requires : goal.attribute-requires
attribute-requires c = (c.requires, rw c.flash_pen.ensures (is_pen-flash_pen_of _ c.cursor-c.ensures.1.pen))
