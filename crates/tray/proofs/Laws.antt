-- A record in place: its cells lent, and its head made anew before them. Assumes nothing.
use mathlib.Core.Path.{◌≡◌, ap, ◌∙◌}
use mathlib.Core.List.{List}
use Prim.Native.Nat.{ℕ}
use lib.ListN.{length, take, drop}
use borrow.Rule.Slice.PartMut.{put_mid}
use Rattle.state.specs.declared.State.{State}
use Rattle.state.specs.State.{Desk, desk}
use Rattle.record.specs.Layout.{record_of}
use Rattle.record.proofs.Laws.{cells_record_of, cells_back, lent_cells}

-- The cells of a record were lent and came back, and its head is made anew: the record of the desk that they are.
pub record_of_in_place : (bs cells out : List ℕ) (s : State) {e : Desk} → length bs ≡ 1984 → length cells ≡ 1920
    → out ≡ record_of (desk s (drop 64 (put_mid 64 1920 bs cells))) → desk s cells ≡ e → out ≡ record_of e
record_of_in_place bs cells out s hb hc h e = h ∙ ap (λ (l : List ℕ). record_of (desk s l)) (cells_back bs cells hb hc) ∙ ap record_of e

-- the cells of a record of 1,984 bytes, lent as a part of it
pub cells_of_record : (e : Desk) {bs : List ℕ} → length bs ≡ 1984 → bs ≡ record_of e → take 1920 (drop 64 bs) ≡ e.cells
cells_of_record e {bs} size h = lent_cells bs size ∙ ap (drop 64) h ∙ cells_record_of e
