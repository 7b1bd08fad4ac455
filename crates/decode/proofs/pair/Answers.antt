-- `pair` meets its contract. Assumes nothing.
use mathlib.Core.Path.{ap, ◌∙◌}
use Prim.Native.Nat.{ℕ}
use Rattle.std.specs.Prelude.{Some, None}
use borrow.Author.Tests.{lt-ltb, le-ltb}
use Rattle.wire.specs.Byte.{low_seven}
use Rattle.state.specs.State.{desk}
use Rattle.decode.specs.Pair.{cleared_of, type_any_of, rule_one_of, rule_two_of, rule_three_of, rule_four_of, pair_of}
use Rattle.decode.proofs.Laws.{none_then_text, code_then_text}
use Rattle.decode.proofs.pair.Goals as goal

pub returns-then-a-lt16 : goal.returns-then-a-lt16
unfolding pair_of rule_two_of cleared_of
returns-then-a-lt16 c =
    let low = c.low_seven-a.ensures.0 in
    let a = c.args in
    let clear = c.cleared-open.ensures in
    let text = c.text_code.ensures in
    let good = rw c.is_good.ensures at c.if-is_good.true in
    let early = rw low at (lt-ltb _ _ c.if-a-lt16.true) in
    rw (good, early)
    (c.type_both.ensures
    ∙ (λ i. type_any_of (type_any_of (desk (clear i) a.cells.now) None) (text i))
    ∙ none_then_text (cleared_of (desk a.state a.cells.now)) a.y)

pub returns-then-a-lt32 : goal.returns-then-a-lt32
unfolding pair_of
returns-then-a-lt32 c =
    let low = c.low_seven-a.ensures.0 in
    let a = c.args in
    let good = rw c.is_good.ensures at c.if-is_good.true in
    let late = rw low at (le-ltb _ _ c.if-a-lt16.false) in
    let control = rw low at (lt-ltb _ _ c.if-a-lt32.true) in
    rw (good, late, control) (c.rule_three.ensures ∙ ap (λ (n : ℕ). rule_three_of (desk a.state a.cells.now) n a.y) low)

pub returns-then-is_good : goal.returns-then-is_good
unfolding pair_of rule_four_of cleared_of
returns-then-is_good c =
    let low = c.low_seven-a.ensures.0 in
    let a = c.args in
    let clear = c.cleared-open.ensures in
    let text = c.text_code-then-is_good.ensures in
    let good = rw c.is_good.ensures at c.if-is_good.true in
    let late = rw low at (le-ltb _ _ c.if-a-lt16.false) in
    let later = rw low at (le-ltb _ _ c.if-a-lt32.false) in
    rw (good, late, later)
    (c.type_both-then-is_good.ensures
    ∙ (λ i. type_any_of (type_any_of (desk (clear i) a.cells.now) (Some (low i))) (text i))
    ∙ code_then_text (cleared_of (desk a.state a.cells.now)) (low_seven a.x) a.y)

pub returns-then-is_damaged_repeat : goal.returns-then-is_damaged_repeat
unfolding pair_of rule_one_of cleared_of
returns-then-is_damaged_repeat c =
    let bad = rw c.is_good.ensures at c.if-is_good.false in
    let repeat = rw c.is_damaged_repeat.ensures at c.if-is_damaged_repeat.true in
    rw (bad, repeat, c.cleared-open.ensures)

pub returns : goal.returns
unfolding pair_of rule_one_of cleared_of
returns c =
    let a = c.args in
    let clear = c.cleared-open.ensures in
    let text = c.text_code-2.ensures in
    let bad = rw c.is_good.ensures at c.if-is_good.false in
    let other = rw c.is_damaged_repeat.ensures at c.if-is_damaged_repeat.false in
    rw (bad, other)
    (c.type_both-2.ensures
    ∙ (λ i. type_any_of (type_any_of (desk (clear i) a.cells.now) (Some 0x7f)) (text i))
    ∙ code_then_text (cleared_of (desk a.state a.cells.now)) 0x7f a.y)
