-- `low_seven` meets its contract. Assumes nothing.
use native.Mathlib.Omega.{arith}
use Rattle.wire.proofs.Laws.{low_seven_below}
use Rattle.wire.proofs.Tables.{mask_low_seven}
use Rattle.wire.proofs.low_seven.Goals as goal

pub returns : goal.returns
returns c =
    let e = mask_low_seven c.args.byte (omega arith) in
    (e, rw e (low_seven_below c.args.byte))
