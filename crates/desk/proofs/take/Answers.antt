-- `take` meets its contract: the three bytes are a pair's own. Assumes nothing.
use mathlib.Core.Path.{refl, ap, sym, ◌∙◌}
use Rattle.standing.specs.Acts.{entry_of}
use Rattle.standing.specs.Calls.{three, give_of}
use Rattle.replay.specs.Captions.{caption_decoder}
use Rattle.replay.proofs.Laws.{act_of_pair}
use Rattle.desk.proofs.take.Goals as goal

pub give-requires : goal.give-requires
give-requires c = ap entry_of (sym (act_of_pair 1 c.args.first c.args.second refl))

pub returns : goal.returns
returns c =
    let a = c.args in
    c.give.ensures ∙ ap (give_of caption_decoder (three a.desk.now a.log.now a.tray.now)) (sym (act_of_pair 1 a.first a.second refl))
