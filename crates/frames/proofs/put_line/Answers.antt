-- `put_line` meets its contract. Assumes nothing.
use mathlib.Core.Path.{ap, sym}
use native.Mathlib.Omega.{arith}
use lib.ListN.{length, take}
use borrow.Rule.Slice.PartMut.{mid_len}
use Rattle.facts.proofs.Over.{length-over, part-over}
use Rattle.wire.specs.Line.{line_of}
use Rattle.wire.proofs.Laws.{length_line_of}
use Rattle.frames.proofs.Laws.{written_line}
use Rattle.frames.proofs.put_line.Goals as goal

pub returns : goal.returns
returns c =
    let a = c.args in
    let d = a.out.now in
    let size = length_line_of a.first a.second in
    let line = written_line (take 5 d) a.first a.second (mid_len 0 5 d (omega arith)) c.write_line.ensures in
    let bytes = part-over d 0 5 size (omega arith) line in
    record { bytes = bytes; next = sym size; room = omega (arith, ap length bytes, length-over d 0 (line_of a.first a.second)) }
