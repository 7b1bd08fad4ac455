-- `start` meets its contract. Assumes nothing.
use mathlib.Core.Path.{ap}
use lib.ListN.{replicate}
use Rattle.state.specs.declared.State.{State}
use Rattle.runs.specs.Runs.{empty_screen}
use Rattle.walk.specs.Stage.{at_header}
use Rattle.walk.specs.Walk.{place, walk, start_of}
use Rattle.walk.proofs.start.Goals as goal

pub returns : goal.returns
unfolding start_of
returns c = ap (λ (s : State). place (walk at_header 0 0 s) (replicate 1920 0) empty_screen) c.fresh.ensures
