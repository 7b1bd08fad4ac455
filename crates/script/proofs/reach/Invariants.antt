-- `reach` meets its contract. Assumes nothing.
use mathlib.Core.Path.{◌≡◌}
use lib.ListN.{length}
use Rattle.script.proofs.LawsOfSteps.{Reaches}
use Rattle.script.proofs.reach.Given as goal

abbrev pub invariant-loop-kept : goal.invariant-loop-kept
invariant-loop-kept l =
    (length l.out ≡ length l.initial.out) × Reaches l.script l.kept l.hand l.screen l.initial.out l.out
