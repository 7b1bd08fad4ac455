-- `code_before` meets its contract. Assumes nothing.
use Rattle.writer.proofs.Laws.{code_inside, code_behind}
use Rattle.writer.proofs.code_before.Goals as goal

pub returns-then-k-end : goal.returns-then-k-end
returns-then-k-end c = let a = c.args in code_inside a.memory.now a.at a.end a.k c.if-k-end.true

pub returns : goal.returns
returns c = let a = c.args in code_behind a.memory.now a.at a.end a.k c.if-k-end.false
