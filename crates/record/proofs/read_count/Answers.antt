-- `read_count` meets its contract. Assumes nothing.
use mathlib.Core.Path.{refl}
use Rattle.record.proofs.read_count.Goals as goal

pub returns : goal.returns
returns c = refl
