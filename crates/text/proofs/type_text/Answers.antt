-- `type_text` meets its contract. Assumes nothing.
use mathlib.Core.Path.{ap, sym, subst, ◌∙◌}
use Prim.Native.Nat.{◌+◌}
use Rattle.cell.specs.Cursor.{Placed}
use Rattle.state.specs.State.{desk}
use Rattle.typing.specs.Typing.{passed_of, put_of}
use Rattle.typing.proofs.Laws.{passed_of_keeps_placed}
use Rattle.text.specs.Typed.{typed_of}
use Rattle.text.proofs.Laws.{text_typed, text_shut}
use Rattle.text.proofs.type_text.Goals as goal

pub returns-then-is_open : goal.returns-then-is_open
returns-then-is_open c =
    let a = c.args in
    let memory = c.memory-memory.ensures.0 in
    let x = c.text_code.ensures in
    let y = c.text_code-then-is_open.ensures in
    let between = c.put-between.ensures.0 ∙ ap (passed_of a.at) x in
    let one = c.put-between.ensures.1 ∙ (λ i. put_of a.cells.now (memory i) a.at (x i)) in
    let behind = c.put.ensures.0 ∙ (λ i. passed_of (between i) (y i)) in
    let two = c.put.ensures.1 ∙ (λ i. put_of (one i) (memory i) (between i) (y i)) in
    let gate = sym c.is_open.ensures ∙ c.if-is_open.true in (
      subst Placed (sym behind) (passed_of_keeps_placed _ _ (passed_of_keeps_placed a.at _ c.requires.2)),
      λ n. (λ i. desk (typed_of a.start (behind i) (n + 1)) (two i))
          ∙ sym (text_typed a.start a.at n a.cells.now a.x a.y c.requires.3 gate c.requires.0.style.style_high),
    )

pub returns : goal.returns
returns c =
    let a = c.args in
    (c.requires.2, λ n. sym (text_shut a.start a.at n a.cells.now a.x a.y c.requires.3 (sym c.is_open.ensures ∙ c.if-is_open.false)))
