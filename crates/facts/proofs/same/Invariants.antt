-- `same` meets its contract: the flag is, after each byte, the test of all bytes up to there. Assumes nothing.
use mathlib.Core.Path.{◌≡◌}
use lib.Dec.{eqb}
use lib.ListN.{get_or}
use Rattle.facts.specs.Every.{every}
use Rattle.facts.proofs.same.Given as goal

abbrev pub invariant-loop-i : goal.invariant-loop-i
invariant-loop-i l = l.ok ≡ every (λ k. eqb (get_or l.a k 0) (get_or l.b k 0)) l.i
