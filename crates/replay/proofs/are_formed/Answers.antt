-- `are_formed` meets its contract. Assumes nothing.
use mathlib.Core.Path.{◌≡◌, ap, sym, ◌∙◌}
use native.Mathlib.Omega.{arith}
use Prim.Native.Nat.{◌+◌}
use Rattle.standing.proofs.Within.{are_formed_none, are_formed_more}
use Rattle.standing.specs.Acts.{is_formed, are_formed}
use Rattle.replay.proofs.Laws.{of_entry, are_formed_broken}
use Rattle.replay.proofs.are_formed.Goals as goal

pub loop-n-init : goal.loop-n-init
loop-n-init c = let a = c.args in are_formed_none a.log.now a.from

pub returns-then-not-is_formed : goal.returns-then-not-is_formed
returns-then-not-is_formed c =
    let a = c.args in
    are_formed_broken a.log.now a.from a.count c.loop-n.n c.loop-n-test.true
    (sym (of_entry is_formed a.log.now (a.from + c.loop-n.n) c.at-act.ensures) ∙ sym c.is_formed.ensures ∙ c.if-not-is_formed.true)

pub loop-n-preserved : goal.loop-n-preserved
loop-n-preserved c =
    let a = c.args in
    are_formed_more a.log.now a.from c.loop-n.n c.loop-n.invariant
    (sym c.if-not-is_formed.false ∙ c.is_formed.ensures ∙ of_entry is_formed a.log.now (a.from + c.loop-n.n) c.at-act.ensures)

pub returns : goal.returns
returns c =
    let a = c.args in
    let e : c.loop-n.n ≡ a.count = omega arith in
    c.loop-n.invariant ∙ ap (are_formed a.log.now a.from) e
