-- `write_sized` meets its contract. Assumes nothing.
use native.Mathlib.Omega.{arith}
use Rattle.tape.specs.Channel.{number_of_channel}
use Rattle.tape.proofs.LawsOfSizes.{length-tape_of}
use Rattle.writer.proofs.write_sized.Goals as goal

pub put_tape-requires : goal.put_tape-requires
put_tape-requires c = omega (arith, length-tape_of (number_of_channel c.in-Ok.channel) c.args.memory.now)

pub overflow_cast-result : goal.overflow_cast-result
overflow_cast-result c = omega (arith, c.put_tape.ensures.next, length-tape_of (number_of_channel c.in-Ok.channel) c.args.memory.now)
