-- `put_nulls` meets its contract. Assumes nothing.
use Prim.Native.Nat.{◌-◌}
use Rattle.wire.specs.Reel.{reel_of_raw}
use Rattle.tape.specs.Programme.{nulls_of}
use Rattle.items.proofs.LawsOfLaid.{Rest}
use Rattle.frames.proofs.put_nulls.Given as goal

abbrev pub invariant-loop : goal.invariant-loop
invariant-loop l = Rest l.initial.out 0 (reel_of_raw (nulls_of l.count)) l.out l.n (reel_of_raw (nulls_of (l.count - l.counter)))
