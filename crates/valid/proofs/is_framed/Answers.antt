-- `is_framed` meets its contract. Assumes nothing.
use mathlib.Core.Bool.{◌&&◌}
use mathlib.Core.Path.{ap, ◌∙◌}
use Prim.Native.Nat.{ℕ, ◌*◌}
use borrow.Author.Tests.{eq-eqb, ne_eqb}
use Rattle.facts.specs.Every.{blank_of}
use Rattle.valid.specs.Check.{is_framed}
use Rattle.valid.proofs.is_framed.Goals as goal

pub rows_above-above-requires : goal.rows_above-above-requires
rows_above-above-requires c = c.requires.2 c.if-mark-ne1.false

pub returns : goal.returns
unfolding is_framed
returns c =
    let a = c.args in
    let bs = a.bytes.now in
    let top = c.is_blank.ensures ∙ ap (λ (k : ℕ). blank_of bs 64 (k * 64)) c.rows_above-above.ensures in
    rw (eq-eqb a.mark 1 c.if-mark-ne1.false) (λ i. top i && c.is_blank-2.ensures i)

pub returns-then-mark-ne1 : goal.returns-then-mark-ne1
unfolding is_framed
returns-then-mark-ne1 c = rw (ne_eqb c.args.mark 1 c.if-mark-ne1.true)
