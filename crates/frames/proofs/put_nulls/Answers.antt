-- `put_nulls` meets its contract. Assumes nothing.
use mathlib.Core.Path.{◌≡◌, ap}
use native.Mathlib.Omega.{arith}
use Prim.Native.Nat.{ℕ, ◌+◌, ◌-◌}
use Rattle.wire.specs.Line.{line_of}
use Rattle.wire.specs.Reel.{reel_of_raw}
use Rattle.tape.specs.Programme.{nulls_of}
use Rattle.items.proofs.LawsOfLaid.{rest_start, rest_stop, rest_room, rest_laid}
use Rattle.frames.proofs.Laws.{nulls_more}
use Rattle.frames.proofs.put_nulls.Goals as goal

pub loop-init : goal.loop-init
loop-init c = let a = c.args in let e : a.count - 0 ≡ a.count = omega arith in rw e (rest_start a.out.now 0 (reel_of_raw (nulls_of a.count)))

pub put_line-n-requires : goal.put_line-n-requires
put_line-n-requires c =
    let a = c.args in
    let i = c.loop.counter in
    rest_room a.out.now (reel_of_raw (nulls_of a.count)) c.requires c.loop.invariant (line_of 0x80 0x80) (reel_of_raw (nulls_of (a.count - (i + 1)))) (nulls_more a.count i (omega arith))

pub loop-preserved : goal.loop-preserved
loop-preserved c =
    let a = c.args in
    let i = c.loop.counter in
    rest_laid a.out.now (reel_of_raw (nulls_of a.count)) c.requires c.loop.invariant (line_of 0x80 0x80) (reel_of_raw (nulls_of (a.count - (i + 1)))) (nulls_more a.count i (omega arith)) c.put_line-n.ensures

pub returns : goal.returns
returns c =
    let a = c.args in
    let none : a.count - c.loop.counter ≡ 0 = omega arith in
    rest_stop a.out.now (reel_of_raw (nulls_of a.count)) c.requires c.loop.invariant (ap (λ (k : ℕ). reel_of_raw (nulls_of k)) none)
