-- `put_codes` meets its contract. Assumes nothing.
use mathlib.Core.Path.{◌≡◌, sym}
use Prim.Native.Nat.{◌-◌}
use native.Mathlib.Omega.{arith}
use Rattle.facts.proofs.Over.{over_nil}
use Rattle.lines.specs.Line.{codes_of}
use Rattle.lines.proofs.Laws.{length_codes_of}
use Rattle.lines.proofs.Lemmas.{codes_more}
use Rattle.lines.proofs.put_codes.Goals as goal

pub loop-k-init : goal.loop-k-init
unfolding codes_of
loop-k-init c =
    let a = c.args in
    let none : a.from - a.from ≡ 0 = omega arith in
    record { high = omega arith; next = omega arith; bytes = rw none (sym (over_nil a.out.now 0)) }

pub loop-k-preserved : goal.loop-k-preserved
loop-k-preserved c =
    let a = c.args in
    let l = c.loop-k in record {
      high = omega arith;
      next = omega arith;
      bytes = codes_more a.out.now a.screen.now a.at a.from l.k l.n (omega arith) l.invariant.next l.invariant.bytes c.hex.ensures c.hex-in-loop-k.ensures;
    }

pub returns : goal.returns
returns c =
    let a = c.args in
    let l = c.loop-k in
    let e : l.k - a.from ≡ a.end - a.from = omega arith in
    record {
      bytes = rw e at l.invariant.bytes;
      next = omega (arith, length_codes_of a.screen.now a.at a.from (a.end - a.from));
      room = omega arith;
    }
