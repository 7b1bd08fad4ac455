-- `is_channel` meets its contract. Assumes nothing.
use mathlib.Core.Path.{◌∙◌}
use Rattle.valid.proofs.LawsOfRanges.{contains_within}
use Rattle.replay.proofs.Laws.{is_channel_is}
use Rattle.replay.proofs.is_channel.Goals as goal

pub returns : goal.returns
returns c =
    let n = c.new.ensures in
    contains_within c.new.result 1 2 c.args.channel n.start n.end n.exhausted c.contains.ensures.value ∙ is_channel_is c.args.channel
