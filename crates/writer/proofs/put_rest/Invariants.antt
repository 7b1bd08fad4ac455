-- `put_rest` meets its contract. Assumes nothing.
use Prim.Native.Nat.{◌-◌}
use Rattle.tape.specs.Channel.{number_of_channel}
use Rattle.tape.specs.Tape.{rest_of}
use Rattle.items.proofs.LawsOfLaid.{Rest}
use Rattle.writer.proofs.put_rest.Given as goal

abbrev pub invariant-loop-k : goal.invariant-loop-k
invariant-loop-k l = Rest l.initial.out 0 (rest_of (number_of_channel l.channel) l.memory l.at l.end l.from) l.out l.n (rest_of (number_of_channel l.channel) l.memory l.at l.end l.k)

abbrev pub decreases-loop-k : goal.decreases-loop-k
decreases-loop-k l = l.end - l.k
