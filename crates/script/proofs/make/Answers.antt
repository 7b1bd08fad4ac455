-- `make` meets its contract. Assumes nothing.
use mathlib.Core.Path.{◌∙◌}
use native.Mathlib.Omega.{arith}
use borrow.Author.Rules.{rules}
use Rattle.script.proofs.LawsOfMake.{blank_is, make_done, make_roomless, make_broken}
use Rattle.script.proofs.make.Goals as goal
use Rattle.script.proofs.make.Goals.{then-out-ne80000-via-then-out-ne80000, then-out-ne80000-via-else-out-ne80000+then-script-ne0}

pub returns-then-out-ne80000 : goal.returns-then-out-ne80000
returns-then-out-ne80000 c =
    let script = c.args.script.now in
    let out = c.args.out.now in
    elim c.then-out-ne80000.branch [
      | then-out-ne80000-via-then-out-ne80000 w ↦ make_roomless script out w.if-out-ne80000.true
      | then-out-ne80000-via-else-out-ne80000+then-script-ne0 w ↦ make_broken script out w.if-out-ne80000.false w.if-script-ne0.true
    ]

pub reach-reached-requires : goal.reach-reached-requires
reach-reached-requires c = (blank_is, search rules)

pub overflow_mul-result : goal.overflow_mul-result
overflow_mul-result c = let fit = c.show_last-last.ensures.fit in omega (arith, fit.room)

pub returns : goal.returns
returns c =
    let a = c.args in
    make_done a.script.now a.out.now c.if-out-ne80000.false c.if-script-ne0.false (c.show_last-last.ensures.kept ∙ c.reach-reached.ensures.kept)
    (c.show_last-last.ensures.goes _ a.out.now c.reach-reached.ensures.goes)
