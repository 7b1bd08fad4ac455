-- `select` meets its contract. Assumes nothing.
use Rattle.decode.specs.Step.{select_of}
use Rattle.decode.proofs.select.Goals as goal

pub returns : goal.returns
unfolding select_of
returns c = rw (c.select.ensures, c.blank.ensures, c.requires.0)
