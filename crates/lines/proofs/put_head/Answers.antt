-- `put_head` meets its contract. Assumes nothing.
use native.Mathlib.Omega.{arith}
use mathlib.Core.List.{◌++◌}
use Rattle.lines.specs.Line.{frame_of, row_of, head_of}
use Rattle.facts.proofs.Tail.{tail_then}
use Rattle.lines.proofs.put_head.Goals as goal

pub returns : goal.returns
unfolding head_of frame_of row_of
returns c =
    let a = c.args in
    let d = a.out.now in
    let one = rw c.frame_text.ensures at c.copy.ensures in
    let two = rw c.frame_text-2.ensures at c.copy-2.ensures in
    let three = rw c.row_text.ensures at c.copy-3.ensures in
    tail_then d (frame_of a.from ++ frame_of a.to) (row_of a.row.0) 12 (omega arith) (omega arith) (tail_then d (frame_of a.from) (frame_of a.to) 6 (omega arith) (omega arith) one two) three
