-- `open` meets its contract. Assumes nothing.
use mathlib.Core.Path.{sym, ◌∙◌}
use Rattle.standing.proofs.Ways.{open_done, open_unfit}
use Rattle.replay.specs.Captions.{caption_decoder}
use Rattle.standing.specs.Calls.{three}
use Rattle.desk.proofs.LawsOfFound.{lent_sized}
use Rattle.desk.proofs.open.Goals as goal

pub returns-then-not-is_sized : goal.returns-then-not-is_sized
returns-then-not-is_sized c =
    let a = c.args in
    open_unfit caption_decoder (three a.desk.now a.log.now a.tray.now) (sym c.is_sized.ensures ∙ c.if-not-is_sized.true)

pub write_fresh-requires : goal.write_fresh-requires
write_fresh-requires c =
    let a = c.args in
    let z = lent_sized a.desk.now a.log.now a.tray.now (sym c.is_sized.ensures ∙ c.if-not-is_sized.false) in
    z.desk-size

pub returns : goal.returns
returns c =
    let a = c.args in
    open_done caption_decoder (three a.desk.now a.log.now a.tray.now) (sym c.is_sized.ensures ∙ c.if-not-is_sized.false) c.write_fresh.ensures c.blank.ensures c.blank-2.ensures
