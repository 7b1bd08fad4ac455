-- `read_line` meets its contract. Assumes nothing.
use mathlib.Core.Path.{sym, ◌∙◌}
use native.Mathlib.Omega.{arith}
use lib.ListN.{length-take, length-drop}
use Rattle.wire.proofs.Laws.{line_at_end, line_at_short, line_at_chunk, read_as}
use Rattle.wire.proofs.read_line.Goals as goal

pub returns-then-reel-at : goal.returns-then-reel-at
returns-then-reel-at c = let a = c.args in read_as a.reel.now a.at (sym (line_at_end a.reel.now a.at c.if-reel-at.true))

pub returns-in-Some : goal.returns-in-Some
returns-in-Some c =
    let a = c.args in
    let e = line_at_chunk a.reel.now c.in-Some.line.now a.at c.if-reel-at.false c.in-Some.ensures.cases in
    read_as a.reel.now a.at (c.judge.ensures ∙ sym e)

pub returns-in-None : goal.returns-in-None
returns-in-None c =
    let a = c.args in
    let few = simp (length-take, length-drop) at c.in-None.ensures.cases in
    read_as a.reel.now a.at (sym (line_at_short a.reel.now a.at c.if-reel-at.false (omega arith)))
