-- `pack` meets its contract. Assumes nothing.
use mathlib.Core.Path.{◌∙◌}
use Prim.Native.Nat.{◌*◌, ◌%◌}
use lib.Bits.{bit_or}
use Rattle.cell.specs.Pen.{pack_of, one}
use Rattle.cell.proofs.Bits.{bool_byte_one, one_small, or_flags}
use Rattle.cell.proofs.Pen.pack.Goals as goal

pub returns : goal.returns
unfolding pack_of
returns c =
    let p = c.args.self in
    (λ k. bit_or (bit_or (bit_or p.colour (bool_byte_one p.italics k * 8 % 256)) (bool_byte_one p.underline k * 16 % 256)) (bool_byte_one p.flash k * 32 % 256))
    ∙ or_flags p.colour (one p.italics) (one p.underline) (one p.flash) c.requires
    (one_small p.italics) (one_small p.underline) (one_small p.flash)
