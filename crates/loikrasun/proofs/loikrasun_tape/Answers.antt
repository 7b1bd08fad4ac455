-- `loikrasun_tape` meets its contract. Assumes nothing.
use Rattle.loikrasun.proofs.Laws.{tape_packed, written_packed}
use Rattle.loikrasun.proofs.loikrasun_tape.Goals as goal

pub returns : goal.returns
returns c = written_packed (tape_packed c.write_tape.result c.pack_answer.ensures) c.write_tape.ensures
