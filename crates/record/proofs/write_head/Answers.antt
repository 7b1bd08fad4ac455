-- `write_head` meets its contract: fields, counts and zeros stand one behind the other. Assumes nothing.
use Rattle.record.proofs.Laws.{head_written}
use Rattle.record.proofs.write_head.Goals as goal

pub returns : goal.returns
returns c =
    head_written c.args.bytes.now c.args.state c.requires c.write_fields.ensures c.write_counts.ensures c.wipe.ensures
