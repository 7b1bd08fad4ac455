-- `value` meets its contract. Assumes nothing.
use mathlib.Core.Path.{◌≡◌, ◌∙◌}
use Prim.Native.Nat.{◌+◌, ◌-◌}
use native.Mathlib.Omega.{arith}
use lib.Dec.{leb}
use borrow.Author.Tests.{leb-true}
use Rattle.facts.proofs.Choice.{and_left}
use Rattle.wire.proofs.Tables.{ranged_digit_of}
use Rattle.wire.proofs.value.Goals as goal

pub returns-then-byte : goal.returns-then-byte
returns-then-byte c = simp c.if-byte.true at (ranged_digit_of c.args.byte (omega arith))

pub returns-then-byte-2 : goal.returns-then-byte-2
returns-then-byte-2 c =
    let byte = c.args.byte in
    let low = leb-true 0x41 byte (and_left (leb 0x41 byte) (leb byte 0x46) c.if-byte-2.true) in
    let e : byte - 0x41 + 10 ≡ byte - 0x37 = omega (arith, low) in
    e ∙ simp (c.if-byte.false, c.if-byte-2.true) at (ranged_digit_of byte (omega arith))

pub returns : goal.returns
returns c = simp (c.if-byte.false, c.if-byte-2.false) at (ranged_digit_of c.args.byte (omega arith))
