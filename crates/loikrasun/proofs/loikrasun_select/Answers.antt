-- `loikrasun_select` meets its contract. Assumes nothing.
use Rattle.loikrasun.proofs.Laws.{desk_packed, ended_packed}
use Rattle.loikrasun.proofs.loikrasun_select.Goals as goal

pub returns : goal.returns
returns c = ended_packed (desk_packed c.select.result c.pack_answer.ensures) c.select.ensures
