-- `attribute` meets its contract. Assumes nothing.
use Rattle.typing.proofs.Laws.{with_pen_of_sound}
use Rattle.typing.proofs.attribute.Goals as goal

pub write-requires : goal.write-requires
write-requires c =
    rw (c.with_cursor-turned.ensures, c.with_pen.ensures, c.cursor-c.ensures.0)
    (with_pen_of_sound _ c.requires.0 c.args.pen c.requires.1)
