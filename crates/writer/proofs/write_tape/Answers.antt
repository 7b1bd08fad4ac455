-- `write_tape` meets its contract. Assumes nothing.
use lib.Dec.{eqb}
use lib.ListN.{length}
use borrow.Author.Tests.{ne_eqb}
use Rattle.std.proofs.Math.Bool.{and-false}
use Rattle.writer.specs.Write.{write_tape_of}
use Rattle.writer.proofs.write_tape.Goals as goal

pub returns-in_default : goal.returns-in_default
unfolding write_tape_of
returns-in_default c = simp (ne_eqb _ _ c.if-out-eq4096.false, and-false (eqb (length c.args.memory.now) 960))
