-- `put_rows` meets its contract. Assumes nothing.
use Rattle.tape.specs.Channel.{number_of_channel}
use Rattle.tape.specs.Tape.{rows_tape_of}
use Rattle.items.specs.Laid.{Laid}
use Rattle.writer.proofs.put_rows.Given as goal

abbrev pub invariant-loop-row : goal.invariant-loop-row
invariant-loop-row l = Laid l.initial.out (rows_tape_of (number_of_channel l.channel) l.memory l.row) l.out l.n
