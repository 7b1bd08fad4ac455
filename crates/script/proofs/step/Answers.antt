-- `step` meets its contract. Assumes nothing.
use mathlib.Core.Path.{◌≡◌, refl, ap}
use mathlib.Core.Bool.{false, ◌&&◌}
use Prim.Native.Nat.{◌+◌, ◌-◌}
use native.Mathlib.Omega.{arith}
use lib.Dec.{eqb, leb}
use lib.ListN.{get_or}
use borrow.Author.Tests.{ne_eqb, le-leb, lt-leb}
use Rattle.steps.specs.Take.{Take}
use Rattle.steps.specs.Hand.{take_of}
use Rattle.steps.proofs.LawsOfHand.{does_stopped}
use Rattle.script.specs.Step.{step_at}
use Rattle.script.specs.Script.{step_of}
use Rattle.script.proofs.LawsOfSteps.{step_none}
use Rattle.script.proofs.step.Goals as goal

pub returns-in-1-clause-does : goal.returns-in-1-clause-does
unfolding step_at
returns-in-1-clause-does c =
    let a = c.args in
    let n = get_or a.script.now (a.at + 4) 0 in
    let cut : a.at + 8 + n - (a.at + 8) ≡ n = omega arith in
    rw (c.in-1.is, le-leb n 32 c.if-count-le32.true) (rw cut at (c.put.ensures.does a.out.now))

pub returns-in-2-clause-does : goal.returns-in-2-clause-does
unfolding step_at
returns-in-2-clause-does c = rw (c.in-2.is, ← c.from_le_bytes-number.ensures) c.show.ensures.does

pub returns-in-3-clause-does : goal.returns-in-3-clause-does
unfolding step_at
returns-in-3-clause-does c = rw c.in-3.is (rw c.from_le_bytes-number.ensures at (c.clear.ensures.does c.args.screen.now))

pub returns-in-4-clause-does : goal.returns-in-4-clause-does
unfolding step_at
returns-in-4-clause-does c = rw (c.in-4.is, ← c.from_le_bytes-number.ensures) (c.wait.ensures.does c.args.screen.now)

pub returns-in-5-clause-does : goal.returns-in-5-clause-does
unfolding step_at
returns-in-5-clause-does c = rw (c.in-5.is, ← c.from_le_bytes-number.ensures) (c.switch.ensures.does c.args.screen.now c.args.out.now)

pub returns-in_default-clause-does : goal.returns-in_default-clause-does
returns-in_default-clause-does c =
    let a = c.args in
    let count = get_or a.script.now (a.at + 4) 0 in
    let other : (eqb (get_or a.script.now a.at 0) 1 && leb count 32) ≡ false = rw (c.in-1.is, lt-leb count 32 c.if-count-le32.false) refl in
    let e = step_none a.script.now a.at other (λ k. absurd (omega arith)) (λ k. absurd (omega arith)) (λ k. absurd (omega arith)) (λ k. absurd (omega arith)) in
    does_stopped (λ (t : Take). step_of t (step_at a.script.now a.at)) a.hand a.screen.now a.out.now (λ cues n. ap (step_of (take_of a.hand a.screen.now cues)) e)

pub returns-in_default-2-clause-does : goal.returns-in_default-2-clause-does
returns-in_default-2-clause-does c =
    let a = c.args in
    let kind = get_or a.script.now a.at 0 in
    let other : (eqb kind 1 && leb (get_or a.script.now (a.at + 4) 0) 32) ≡ false = rw (ne_eqb kind 1 (λ k. absurd (omega arith))) refl in
    let e = step_none a.script.now a.at other (λ k. absurd (omega arith)) (λ k. absurd (omega arith)) (λ k. absurd (omega arith)) (λ k. absurd (omega arith)) in
    does_stopped (λ (t : Take). step_of t (step_at a.script.now a.at)) a.hand a.screen.now a.out.now (λ cues n. ap (step_of (take_of a.hand a.screen.now cues)) e)
