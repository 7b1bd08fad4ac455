-- `select` meets its contract: the three bytes are a selection's own. Assumes nothing.
use mathlib.Core.Path.{ap, sym, ◌∙◌}
use native.Mathlib.Omega.{arith}
use Rattle.standing.specs.Acts.{entry_of}
use Rattle.standing.specs.Calls.{three, give_of}
use Rattle.replay.specs.Captions.{caption_decoder}
use Rattle.replay.proofs.Laws.{act_of_select}
use Rattle.desk.proofs.select.Goals as goal

pub give-requires : goal.give-requires
give-requires c = ap entry_of (sym (act_of_select 2 c.args.channel 0 (λ e. omega arith)))

pub returns : goal.returns
returns c =
    let a = c.args in
    c.give.ensures ∙ ap (give_of caption_decoder (three a.desk.now a.log.now a.tray.now)) (sym (act_of_select 2 a.channel 0 (λ e. omega arith)))
