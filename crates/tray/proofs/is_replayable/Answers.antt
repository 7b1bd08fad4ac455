-- `is_replayable` meets its contract. Assumes nothing.
use mathlib.Core.Path.{refl}
use Prim.Native.Nat.{◌/◌}
use Rattle.standing.proofs.Within.{is_replayable_of}
use Rattle.replay.specs.Captions.{caption_decoder}
use Rattle.tray.proofs.is_replayable.Goals as goal

pub returns : goal.returns
returns c =
    let a = c.args in
    is_replayable_of caption_decoder a.log.now a.tray.now a.m (a.m / 1000) refl c.is_start.ensures c.are_formed.ensures
