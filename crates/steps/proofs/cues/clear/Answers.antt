-- `clear` meets its contract. Assumes nothing.
use native.Mathlib.Omega.{arith}
use borrow.Author.Rules.{rules}
use Prim.Native.Nat.{◌*◌}
use Rattle.facts.proofs.Tail.{over_tail}
use Rattle.tape.specs.Channel.{number_of_channel}
use Rattle.steps.specs.Take.{clear_of}
use Rattle.steps.proofs.LawsOfHand.{does_exit}
use Rattle.steps.proofs.LawsOfCues.{length_edm, edm_is}
use Rattle.steps.proofs.LawsOfTimes.{fit_more, clear_end, clear_room, clear_goes, clear_stopped}
use Rattle.steps.proofs.cues.clear.Goals as goal

pub returns-in_err-held-clause-does : goal.returns-in_err-held-clause-does
returns-in_err-held-clause-does c =
    let a = c.args in
    λ screen. does_exit (λ t. clear_of t a.frame) a.hand screen a.out.now c.from_residual.result c.from_residual.ensures.1 (clear_stopped a.hand a.frame screen a.out.now c.in_err-held.ensures)

pub put_item-requires : goal.put_item-requires
put_item-requires c = let a = c.args in omega (arith, length_edm (number_of_channel a.hand.channel))

pub put_held-requires : goal.put_held-requires
put_held-requires c =
    let a = c.args in
    let edm = edm_is (number_of_channel a.hand.channel) c.put_item.ensures.bytes in
    (search rules, clear_room a.hand a.frame c.in_ok-held.ensures _ a.out.now edm c.requires.1)

pub further-requires : goal.further-requires
further-requires c = let a = c.args in omega (arith, clear_end a.hand a.frame c.in_ok-held.ensures)

pub overflow_add-held : goal.overflow_add-held
overflow_add-held c = let a = c.args in omega (arith, clear_end a.hand a.frame c.in_ok-held.ensures)

pub returns-clause-fit : goal.returns-clause-fit
returns-clause-fit c =
    let a = c.args in
    rw c.further.ensures (fit_more a.hand a.hand.drawn _ (omega (arith, clear_end a.hand a.frame c.in_ok-held.ensures)) c.requires.0)

pub returns-clause-does : goal.returns-clause-does
returns-clause-does c =
    let a = c.args in
    let edm = edm_is (number_of_channel a.hand.channel) c.put_item.ensures.bytes in
    λ screen. clear_goes a.hand a.frame c.in_ok-held.ensures _ a.out.now edm screen c.further.ensures (over_tail a.out.now (a.hand.frames * 5) _ (omega arith) c.put_held.ensures.bytes)
