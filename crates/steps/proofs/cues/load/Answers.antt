-- `load` meets its contract. Assumes nothing.
use mathlib.Core.Bool.{false}
use mathlib.Core.Path.{refl}
use native.Mathlib.Omega.{arith}
use borrow.Author.Rules.{rules}
use Prim.Native.Nat.{◌*◌}
use Rattle.facts.proofs.Tail.{over_tail}
use Rattle.steps.specs.Take.{show_of}
use Rattle.steps.proofs.LawsOfHand.{does_exit}
use Rattle.steps.proofs.LawsOfTimes.{fit_more, load_size, load_end, load_room, load_kept, load_wrong}
use Rattle.steps.proofs.cues.load.Goals as goal

pub plan-requires : goal.plan-requires
plan-requires c =
    let a = c.args in
    let z = load_size a.hand a.screen.now a.raw.now a.frame c.requires.2 in
    (search rules, omega arith, omega arith)

pub returns-in_err-held-clause-does : goal.returns-in_err-held-clause-does
returns-in_err-held-clause-does c =
    let a = c.args in
    does_exit (λ t. show_of t a.frame) a.hand a.screen.now a.out.now c.from_residual.result c.from_residual.ensures.1
    (load_wrong a.hand a.screen.now a.raw.now a.frame c.requires.2 a.out.now c.requires.3 c.in_err-held.ensures)

pub put_held-requires : goal.put_held-requires
put_held-requires c =
    let a = c.args in (
      (load_size a.hand a.screen.now a.raw.now a.frame c.requires.2).low,
      load_room a.hand a.screen.now a.raw.now a.frame c.requires.2 c.in_ok-held.ensures a.out.now c.requires.1,
    )

pub overflow_add-result-2 : goal.overflow_add-result-2
overflow_add-result-2 c =
    let a = c.args in
    omega (arith, load_end a.hand a.screen.now a.raw.now a.frame c.requires.2 c.in_ok-held.ensures)

pub returns-clause-fit : goal.returns-clause-fit
returns-clause-fit c =
    let a = c.args in
    fit_more a.hand false _ (load_end a.hand a.screen.now a.raw.now a.frame c.requires.2 c.in_ok-held.ensures) c.requires.0

pub returns-clause-does : goal.returns-clause-does
returns-clause-does c =
    let a = c.args in
    load_kept a.hand a.screen.now a.raw.now a.frame c.requires.2 c.in_ok-held.ensures a.out.now c.requires.3 refl (over_tail a.out.now (a.hand.frames * 5) _ (omega arith) c.put_held.ensures.bytes)
