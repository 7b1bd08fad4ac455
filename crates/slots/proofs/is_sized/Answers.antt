-- `is_sized` meets its contract. Assumes nothing.
use Rattle.slots.proofs.Laws.{is_sized_is}
use Rattle.slots.proofs.is_sized.Goals as goal

pub returns : goal.returns
returns c = let a = c.args in is_sized_is a.desk a.log a.tray
