-- `loikrasun_open` meets its contract. Assumes nothing.
use Rattle.loikrasun.proofs.Laws.{desk_packed, ended_packed}
use Rattle.loikrasun.proofs.loikrasun_open.Goals as goal

pub returns : goal.returns
returns c = ended_packed (desk_packed c.open.result c.pack_answer.ensures) c.open.ensures
