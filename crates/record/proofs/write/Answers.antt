-- `write` meets its contract. Assumes nothing.
use mathlib.Core.Path.{◌≡◌, ap, ◌∙◌}
use mathlib.Core.List.{List}
use Prim.Native.Nat.{ℕ}
use native.Mathlib.Omega.{arith}
use lib.ListN.{length}
use borrow.Rule.Slice.PartMut.{mid_of, mid_len}
use Rattle.facts.proofs.Over.{over_all}
use Rattle.state.specs.State.{desk}
use Rattle.record.specs.Layout.{record_of}
use Rattle.record.proofs.Laws.{cells_back}
use Rattle.record.proofs.write.Goals as goal

pub returns : goal.returns
returns c =
    let a = c.args in
    let size = mid_len 64 1984 a.out.now (omega arith) in
    let cells : c.copy.new.out ≡ a.cells.now = c.copy.ensures ∙ over_all (mid_of 64 1920 a.out.now) a.cells.now (omega arith) in
    c.write_head.ensures
    ∙ ap (λ (l : List ℕ). record_of (desk a.state l))
    (cells_back a.out.now c.copy.new.out c.requires.0 (ap length cells ∙ c.requires.1) ∙ cells)
