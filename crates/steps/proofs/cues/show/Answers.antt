-- `show` meets its contract. Assumes nothing.
use mathlib.Core.Path.{refl, sym}
use native.Mathlib.Omega.{arith}
use lib.ListN.{replicate}
use lib.Seq.{length-take-le}
use borrow.Author.Rules.{rules}
use Rattle.tape.specs.Channel.{number_of_channel}
use Rattle.tape.proofs.Channels.{channel_own}
use Rattle.steps.specs.Take.{Take, show_of}
use Rattle.steps.specs.Hand.{take_of}
use Rattle.steps.proofs.LawsOfHand.{does_stopped}
use Rattle.steps.proofs.LawsOfCues.{show_unwritable}
use Rattle.steps.proofs.LawsOfTapes.{some_refusal, wrote_none, wrote_some}
use Rattle.steps.proofs.cues.show.Goals as goal

pub slice_bounds-tape-end : goal.slice_bounds-tape-end
slice_bounds-tape-end c =
    let a = c.args in
    let own = channel_own a.hand.channel in
    let wrote = wrote_some a.screen.now (replicate 4096 0) (number_of_channel a.hand.channel) (omega arith) refl own.0 own.1 (rw c.from.ensures at c.in-Ok.ensures) refl in
    omega (arith, wrote.room)

pub slice_bounds-load-end : goal.slice_bounds-load-end
slice_bounds-load-end c =
    let a = c.args in
    let own = channel_own a.hand.channel in
    let wrote = wrote_some a.screen.now (replicate 4096 0) (number_of_channel a.hand.channel) (omega arith) refl own.0 own.1 (rw c.from.ensures at c.in-Ok.ensures) refl in
    sym (length-take-le _ _ (omega (arith, wrote.room)))

pub load-requires : goal.load-requires
load-requires c =
    let a = c.args in
    let own = channel_own a.hand.channel in
    let wrote = wrote_some a.screen.now (replicate 4096 0) (number_of_channel a.hand.channel) (omega arith) refl own.0 own.1 (rw c.from.ensures at c.in-Ok.ensures) refl in
    (search rules, search rules, wrote.tape, wrote.fit)

pub returns-in-Err-clause-does : goal.returns-in-Err-clause-does
returns-in-Err-clause-does c =
    let a = c.args in
    let own = channel_own a.hand.channel in
    let none = wrote_none a.screen.now (replicate 4096 0) (number_of_channel a.hand.channel) (omega arith) refl own.0 own.1 (rw c.from.ensures at c.in-Err.ensures) (some_refusal c.in-Err.field-0) in
    does_stopped (λ (t : Take). show_of t a.frame) a.hand a.screen.now a.out.now (λ cues n. show_unwritable (take_of a.hand a.screen.now cues) a.frame none)
