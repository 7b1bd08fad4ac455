-- `write_two` meets its contract. Assumes nothing.
use Rattle.typing.proofs.Laws.{write_any_of_both}
use Rattle.typing.proofs.write_two.Goals as goal

pub returns : goal.returns
returns c =
    let a = c.args in
    write_any_of_both a.mode a.cells.now a.first a.second c.requires.1 c.requires.0.ranged.style.style_high
    c.memory-memory.ensures.0 c.cursor-at.ensures.0 c.put-between.ensures c.put-behind.ensures c.with_cursor.ensures
