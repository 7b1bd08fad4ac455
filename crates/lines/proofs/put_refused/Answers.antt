-- `put_refused` meets its contract. Assumes nothing.
use native.Mathlib.Omega.{arith}
use Rattle.lines.specs.Line.{frame_of, refused_of}
use Rattle.facts.proofs.Tail.{tail_then}
use Rattle.lines.proofs.put_refused.Goals as goal

pub returns : goal.returns
unfolding refused_of frame_of
returns c =
    let a = c.args in
    let d = a.out.now in
    let two = rw c.frame_text.ensures at c.copy-2.ensures in
    let three = rw c.digit.ensures at c.copy-3.ensures in
    tail_then d _ _ 14 (omega arith) (omega arith) (tail_then d _ (frame_of a.frame) 8 (omega arith) (omega arith) c.copy.ensures two) three
