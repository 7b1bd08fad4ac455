-- `is_good` meets its contract. Assumes nothing.
use mathlib.Core.Path.{ap}
use Prim.Native.Nat.{ℕ, ◌%◌}
use native.Mathlib.Omega.{arith}
use lib.Dec.{eqb}
use Rattle.wire.specs.Byte.{is_good}
use Rattle.wire.proofs.Tables.{ones_ones_of}
use Rattle.wire.proofs.is_good.Goals as goal

pub returns : goal.returns
unfolding is_good
returns c = ap (λ (n : ℕ). eqb (n % 2) 1) (ones_ones_of c.args.byte (omega arith))
