-- `rule_three` meets its contract. Assumes nothing.
use mathlib.Core.Path.{◌∙◌}
use Rattle.state.specs.State.{desk}
use Rattle.decode.specs.Pair.{cleared_of, control_of, rule_three_of}
use Rattle.decode.proofs.rule_three.Goals as goal

pub returns-then-is_good-b : goal.returns-then-is_good-b
unfolding rule_three_of cleared_of
returns-then-is_good-b c =
    let passed = rw (c.is_good.ensures, c.low_seven-b.ensures.0) at c.if-is_good-b.true in
    rw (passed, c.cleared-open.ensures)

pub returns-then-is_unassigned : goal.returns-then-is_unassigned
unfolding rule_three_of cleared_of
returns-then-is_unassigned c =
    let passed = rw (c.is_good.ensures, c.low_seven-b.ensures.0) at c.if-is_good-b.false in
    let unassigned = rw (c.is_unassigned.ensures, c.classify-code.ensures, c.low_seven-b.ensures.0) at c.if-is_unassigned.true in
    rw (passed, unassigned, c.cleared-open.ensures)

pub returns : goal.returns
unfolding rule_three_of cleared_of
returns c =
    let a = c.args in
    let low = c.low_seven-b.ensures.0 in
    let clear = c.cleared-open.ensures in
    let passed = rw (c.is_good.ensures, low) at c.if-is_good-b.false in
    let assigned = rw (c.is_unassigned.ensures, c.classify-code.ensures, low) at c.if-is_unassigned.false in
    rw (passed, assigned) (c.control.ensures ∙ (λ i. control_of (desk (clear i) a.cells.now) a.a (low i)))
