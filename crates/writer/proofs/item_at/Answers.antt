-- `item_at` meets its contract. Assumes nothing.
use Rattle.writer.proofs.Laws.{item-joined}
use Rattle.writer.proofs.item_at.Goals as goal

pub returns : goal.returns
returns c =
    let a = c.args in
    item-joined a.memory.now a.at a.end a.k c.next_item.ensures c.code_before-code.ensures c.code_before-next.ensures c.code_before-after.ensures
