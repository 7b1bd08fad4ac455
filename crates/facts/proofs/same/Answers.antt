-- `same` meets its contract: the flag is, after each byte, the test of all bytes up to there. Assumes nothing.
use mathlib.Core.Path.{◌≡◌, ap, ◌∙◌}
use Prim.Native.Nat.{ℕ}
use native.Mathlib.Omega.{arith}
use lib.Dec.{eqb}
use lib.ListN.{get_or}
use Rattle.facts.specs.Every.{same_of}
use Rattle.facts.proofs.Every.{every_more}
use Rattle.facts.proofs.same.Goals as goal

pub loop-i-preserved : goal.loop-i-preserved
loop-i-preserved c =
    let a = c.args in
    every_more (λ (k : ℕ). eqb (get_or a.a.now k 0) (get_or a.b.now k 0)) c.loop-i.i c.loop-i.invariant

pub returns : goal.returns
unfolding same_of
returns c =
    let a = c.args in
    let e : c.loop-i.i ≡ a.n = omega arith in
    c.loop-i.invariant ∙ ap (λ (k : ℕ). same_of a.a.now a.b.now k) e
