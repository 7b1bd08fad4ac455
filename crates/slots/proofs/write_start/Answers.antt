-- `write_start` meets its contract. Assumes nothing.
use mathlib.Core.Path.{◌∙◌}
use Rattle.standing.proofs.Within.{start_fresh}
use Rattle.replay.specs.Captions.{caption_decoder}
use Rattle.slots.proofs.write_start.Goals as goal

pub returns-then-s-eq0 : goal.returns-then-s-eq0
returns-then-s-eq0 c =
    let a = c.args in
    c.write_fresh.ensures ∙ start_fresh caption_decoder a.tray.now a.s c.if-s-eq0.true

pub returns : goal.returns
returns c = c.copy_from_slice.ensures.after ∙ c.slot.ensures.0
