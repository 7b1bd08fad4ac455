-- `next_line` meets its contract. Assumes nothing.
use mathlib.Core.Path.{sym, ◌∙◌}
use Rattle.runs.proofs.Laws.{next_of_line, next_of_full}
use Rattle.pieces.proofs.next_line.Goals as goal

pub returns-then-frame-lt-MOST : goal.returns-then-frame-lt-MOST
returns-then-frame-lt-MOST c = c.line.ensures ∙ sym (next_of_line _ _ c.if-frame-lt-MOST.true)

pub returns : goal.returns
returns c = sym (next_of_full _ _ c.if-frame-lt-MOST.false)
