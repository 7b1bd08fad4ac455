-- `unpack` meets its contract. Assumes nothing.
use native.Mathlib.Omega.{arith}
use Prim.Native.Nat.{◌/◌}
use lib.Dec.{eqb}
use lib.Bits.{and_mask}
use Rattle.cell.specs.Pen.{unpack_of, pen}
use Rattle.cell.proofs.Pen.unpack.Goals as goal

pub returns : goal.returns
unfolding unpack_of
returns c =
    let b = c.args.byte in
    let low = and_mask b 3 in
    ((λ i. pen (low i) (eqb (and_mask (b / 8) 1 i) 1) (eqb (and_mask (b / 16) 1 i) 1) (eqb (and_mask (b / 32) 1 i) 1)), omega (arith, low))
