-- `hex` meets its contract. Assumes nothing.
use native.Mathlib.Omega.{arith}
use borrow.Author.Tests.{lt-ltb, le-ltb}
use Rattle.wire.proofs.Tables.{shifted_hex_of}
use Rattle.wire.proofs.hex.Goals as goal

pub returns-then-value-lt10 : goal.returns-then-value-lt10
returns-then-value-lt10 c = simp (lt-ltb _ _ c.if-value-lt10.true) at (shifted_hex_of c.args.value (omega arith))

pub returns : goal.returns
returns c = simp (le-ltb _ _ c.if-value-lt10.false) at (shifted_hex_of c.args.value (omega arith))
