-- `slot` meets its contract. Assumes nothing.
use Prim.Native.Nat.{◌+◌, ◌-◌, ◌*◌}
use native.Mathlib.Omega.{arith}
use borrow.Rule.Slice.PartMut.{mid_len}
use Rattle.standing.proofs.Within.{start_slot}
use Rattle.replay.specs.Captions.{caption_decoder}
use Rattle.slots.proofs.slot.Goals as goal

pub returns : goal.returns
returns c =
    let a = c.args in
    let at = (a.s - 1) * 1984 in
    let size = mid_len at (at + 1984) a.tray.now (omega arith) in
    (start_slot caption_decoder a.tray.now a.s (omega arith), omega (arith, size))
