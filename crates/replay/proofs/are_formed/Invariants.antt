-- `are_formed` meets its contract. Assumes nothing.
use mathlib.Core.Path.{◌≡◌}
use mathlib.Core.Bool.{true}
use Rattle.standing.specs.Acts.{are_formed}
use Rattle.replay.proofs.are_formed.Given as goal

abbrev pub invariant-loop-n : goal.invariant-loop-n
invariant-loop-n l = true ≡ are_formed l.log l.from l.n
