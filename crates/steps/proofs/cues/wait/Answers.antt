-- `wait` meets its contract. Assumes nothing.
use native.Mathlib.Omega.{arith}
use Prim.Native.Nat.{◌*◌}
use Rattle.facts.proofs.Tail.{over_tail}
use Rattle.steps.proofs.LawsOfTimes.{fit_more, wait_room, wait_goes, wait_stopped}
use Rattle.steps.proofs.cues.wait.Goals as goal

pub put_nulls-requires : goal.put_nulls-requires
put_nulls-requires c = let a = c.args in wait_room a.hand a.count a.out.now c.requires.1 c.if-frames-count-gt16000.false

pub returns-then-frames-count-gt16000-clause-does : goal.returns-then-frames-count-gt16000-clause-does
returns-then-frames-count-gt16000-clause-does c = let a = c.args in λ screen. wait_stopped a.hand a.count a.out.now screen c.if-frames-count-gt16000.true

pub returns-clause-fit : goal.returns-clause-fit
returns-clause-fit c = let a = c.args in rw c.further.ensures (fit_more a.hand a.hand.drawn _ c.if-frames-count-gt16000.false c.requires.0)

pub returns-clause-does : goal.returns-clause-does
returns-clause-does c = let a = c.args in λ screen. wait_goes a.hand a.count a.out.now screen c.if-frames-count-gt16000.false c.further.ensures (over_tail a.out.now (a.hand.frames * 5) _ (omega arith) c.put_nulls.ensures.bytes)
