-- `reach` meets its contract. Assumes nothing.
use mathlib.Core.Path.{refl}
use Prim.Native.Nat.{◌/◌}
use native.Mathlib.Omega.{arith}
use lib.ListN.{length}
use borrow.Author.Rules.{rules}
use Rattle.script.proofs.LawsOfSteps.{reach_none, reach_more, reach_stopped}
use Rattle.script.proofs.reach.Goals as goal

pub loop-kept-init : goal.loop-kept-init
loop-kept-init c = let a = c.args in (refl, reach_none a.script.now a.out.now c.requires.0)

pub step-requires : goal.step-requires
step-requires c =
    let l = c.loop-kept.invariant in
    (l.1.fit, search rules, omega arith)

pub loop-kept-preserved : goal.loop-kept-preserved
loop-kept-preserved c =
    let a = c.args in
    (search rules, reach_more a.script.now c.loop-kept.kept a.out.now c.loop-kept.invariant.1 c.in-Ok.ensures.fit c.in-Ok.ensures.does)

pub returns-in-Err-clause-kept : goal.returns-in-Err-clause-kept
returns-in-Err-clause-kept c =
    let a = c.args in
    (reach_stopped a.script.now c.loop-kept.kept (length a.script.now / 40) a.out.now c.loop-kept.invariant.1 (omega arith) c.in-Err.ensures.does).kept

pub returns-in-Err-clause-goes : goal.returns-in-Err-clause-goes
returns-in-Err-clause-goes c =
    let a = c.args in
    (reach_stopped a.script.now c.loop-kept.kept (length a.script.now / 40) a.out.now c.loop-kept.invariant.1 (omega arith) c.in-Err.ensures.does).goes
