-- `mid_row` meets its contract. Assumes nothing.
use Rattle.cell.proofs.Laws.{is_pen-mid_row_pen_of}
use Rattle.typing.proofs.mid_row.Goals as goal

pub attribute-requires : goal.attribute-requires
attribute-requires c =
    (c.requires.0, rw c.mid_row_pen.ensures (is_pen-mid_row_pen_of _ _ c.cursor-c.ensures.1.pen c.requires.1 c.requires.2))
