-- `print` meets its contract. Assumes nothing.
use mathlib.Core.Path.{sym}
use Prim.Native.Nat.{ℕ}
use lib.ListN.{length-replicate}
use lib.Seq.{length-take-le}
use Rattle.typist.proofs.Laws.{make_leaves, left_whole, left_wrong, left_line}
use Rattle.typist.proofs.print.Goals as goal
use Rattle.typist.proofs.print.Goals.{else-is_none-via-then-is_none+else-is_none-2, else-is_none-via-else-is_none}

pub slice_bounds-reel-end : goal.slice_bounds-reel-end
slice_bounds-reel-end g c = (make_leaves _ _ (length-replicate {A = ℕ} 80000 0) c.make-made.ensures).within

pub slice_bounds-send-end : goal.slice_bounds-send-end
slice_bounds-send-end g c = sym (length-take-le _ _ (make_leaves _ _ (length-replicate {A = ℕ} 80000 0) c.make-made.ensures).within)

pub returns-then-is_none-2 : goal.returns-then-is_none-2
returns-then-is_none-2 g c =
    let l = make_leaves _ _ (length-replicate {A = ℕ} 80000 0) c.make-made.ensures in
    let e = left_whole _ c.args.reading.wrong l c.if-is_none.ensures c.if-is_none-2.ensures in
    rw e at c.send.ensures

pub returns : goal.returns
returns g c =
    let l = make_leaves _ _ (length-replicate {A = ℕ} 80000 0) c.make-made.ensures in
    elim c.else-is_none.branch [
      | else-is_none-via-then-is_none+else-is_none-2 w ↦ left_line _ c.args.reading.wrong l w.if-is_none.ensures w.if-is_none-2.ensures
      | else-is_none-via-else-is_none w ↦ left_wrong _ c.args.reading.wrong l w.if-is_none.ensures
    ]
