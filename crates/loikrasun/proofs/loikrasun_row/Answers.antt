-- `loikrasun_row` meets its contract. Assumes nothing.
use mathlib.Core.Path.{ap, ◌∙◌}
use Rattle.loikrasun.specs.Packed.{packed_of}
use Rattle.loikrasun.proofs.Laws.{desk_packed}
use Rattle.loikrasun.proofs.loikrasun_row.Goals as goal

pub returns : goal.returns
returns c = desk_packed c.row.result c.pack_answer.ensures ∙ ap packed_of c.row.ensures
