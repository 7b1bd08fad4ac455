-- What the window's operations do row by row, as the papers say it: a base row lowered, a roll, a cut and a move. Assumes nothing.
use mathlib.Core.Path.{◌≡◌, sym, ap, ◌∙◌}
use mathlib.Core.Logic.{inl, inr}
use mathlib.Core.List.{List}
use Prim.Native.Nat.{ℕ, ◌+◌, ◌-◌, ◌*◌, ◌<◌, ◌≤◌, max}
use native.Mathlib.Nat.{lt_of_lt_of_le}
use native.Mathlib.Omega.{arith}
use lib.ListN.{length, get_or, replicate, length-replicate, get_or-replicate}
use Rattle.facts.specs.Over.{over, part}
use Rattle.facts.proofs.Over.{length-over, in_over, length-part, part_at}
use Rattle.cell.specs.declared.Row.{Row}
use Rattle.cell.specs.declared.Cursor.{Cursor}
use Rattle.cell.specs.Place.{row_number}
use Rattle.cell.specs.Cursor.{Placed, cursor}
use Rattle.page.specs.Page.{Holds, empty_rows_of, empty_all_of}
use Rattle.window.specs.Window.{above_of, lowered_of, roll_of, empty_outside_of, move_of}
use Rattle.page.proofs.Laws.{Outside, over_outside, outside_part, empty_rows_of_outside, empty_all_of_outside, length-empty_all_of, length-empty_rows_of}

-- A base row lowered: the window fits there, it does not go up, and one that fits stays.

pub lowered_of_fits : (c : Cursor) (depth : ℕ) → depth ≤ (lowered_of c depth).row.0
unfolding lowered_of
lowered_of_fits c depth = omega arith

pub lowered_of_not_up : (c : Cursor) (depth : ℕ) → c.row.0 ≤ (lowered_of c depth).row.0
unfolding lowered_of
lowered_of_not_up c depth = omega arith

pub lowered_of_stays : (c : Cursor) (depth : ℕ) → depth ≤ c.row.0 → lowered_of c depth ≡ c
unfolding lowered_of
lowered_of_stays c depth fits =
    let e : max c.row.0 depth ≡ c.row.0 = omega arith in
    ap (λ (n : ℕ). cursor (row_number n) c.column c.pen) e

pub lowered_of_placed : (c : Cursor) (depth : ℕ) → depth ≤ 15 → Placed c → Placed (lowered_of c depth)
unfolding lowered_of
lowered_of_placed c depth high h =
    let at = h.place in
    record {
      place = record { row_low = omega arith; row_high = omega arith; column_low = at.column_low; column_high = at.column_high };
      pen = h.pen;
    }

-- byte k is the one at distance j from place `at`
at_distance : (d : List ℕ) (at k j : ℕ) → k ≡ at + j → get_or d k 0 ≡ get_or d (at + j) 0
at_distance d at k j e = ap (λ (i : ℕ). get_or d i 0) e

-- inside what was emptied there is 0
pub wiped : (d : List ℕ) (at n k : ℕ) → at + n ≤ length d → at ≤ k → k < at + n → get_or (over d at (replicate n 0)) k 0 ≡ 0
wiped d at n k fits low high =
    let e : k ≡ at + (k - at) = omega arith in
    at_distance (over d at (replicate n 0)) at k (k - at) e
    ∙ in_over d at (replicate n 0) (k - at) (omega arith) (omega (arith, length-replicate {A = ℕ} n 0))
    ∙ get_or-replicate n (k - at) 0 0 (omega arith)

-- the row at distance i above a base row, of which n rows are counted from the window's own first row
from_first : (memory base n i j : ℕ) → n ≤ base → i < n → memory + (base - 1 - i) * 64 + j ≡ memory + (base - n) * 64 + ((n - 1 - i) * 64 + j)
from_first memory base n i j few near = omega arith

in_window : (n i j : ℕ) → i < n → j < 64 → (n - 1 - i) * 64 + j < n * 64
in_window n i j near small = omega arith

in_memory : (memory base n k : ℕ) → base ≤ 15 → n ≤ base → k < n * 64 → memory + (base - n) * 64 + k < memory + 960
in_memory memory base n k high few near = omega arith

module _ (d : List ℕ) (memory : ℕ) (h : Holds memory d) where
  -- "each window row takes the row below, the base row is emptied": byte j of a row, rows counted from 0
  module _ (base : Row) (depth : ℕ) (low : 1 ≤ base.0) (high : base.0 ≤ 15) (deep : 1 ≤ depth) where
    abbrev top : ℕ
    top = memory + above_of base depth * 64

    abbrev size : ℕ
    size = (base.0 - 1 - above_of base depth) * 64

    abbrev slid : List ℕ
    slid = over d top (part d (top + 64) size)

    slid_size : length (part d (top + 64) size) ≡ size
    slid_size =
        let whole = h.whole in
        length-part d (top + 64) size (omega arith)

    pub roll_of_takes_below : (row j : ℕ) → above_of base depth ≤ row → row + 1 < base.0 → j < 64
        → get_or (roll_of d memory base depth) (memory + row * 64 + j) 0 ≡ get_or d (memory + (row + 1) * 64 + j) 0
    unfolding roll_of
    roll_of_takes_below row j from below small =
        let whole = h.whole in
        let e : memory + row * 64 + j ≡ top + ((row - above_of base depth) * 64 + j) = omega arith in
        let f : top + 64 + ((row - above_of base depth) * 64 + j) ≡ memory + (row + 1) * 64 + j = omega arith in
        empty_rows_of_outside slid memory (base.0 - 1) 1 (memory + row * 64 + j) (inl (omega arith))
        ∙ at_distance slid top (memory + row * 64 + j) ((row - above_of base depth) * 64 + j) e
        ∙ in_over d top (part d (top + 64) size) ((row - above_of base depth) * 64 + j) (omega arith) (omega (arith, slid_size))
        ∙ part_at d (top + 64) size ((row - above_of base depth) * 64 + j) (omega arith)
        ∙ ap (λ (i : ℕ). get_or d i 0) f

    pub roll_of_empties_base : (j : ℕ) → j < 64 → get_or (roll_of d memory base depth) (memory + (base.0 - 1) * 64 + j) 0 ≡ 0
    unfolding roll_of empty_rows_of
    roll_of_empties_base j small =
        let whole = h.whole in
        wiped slid (memory + (base.0 - 1) * 64) 64 (memory + (base.0 - 1) * 64 + j)
        (omega (arith, length-over d top (part d (top + 64) size))) (omega arith) (omega arith)

    pub roll_of_outside : (k : ℕ) → Outside top ((base.0 - above_of base depth) * 64) k → get_or (roll_of d memory base depth) k 0 ≡ get_or d k 0
    unfolding roll_of
    roll_of_outside k out =
        let span = (base.0 - above_of base depth) * 64 in
        empty_rows_of_outside slid memory (base.0 - 1) 1 k (outside_part top span (memory + (base.0 - 1) * 64) (1 * 64) k (omega arith) (omega arith) out)
        ∙ over_outside d top size (part d (top + 64) size) k slid_size (outside_part top span top size k (omega arith) (omega arith) out)

  -- "displayed rows outside the window emptied": the window's rows stay, the others are 0
  module _ (base : Row) (depth : ℕ) (high : base.0 ≤ 15) where
    abbrev cut : List ℕ
    cut = empty_rows_of d memory 0 (above_of base depth)

    pub empty_outside_of_keeps_window : (k : ℕ) → memory + above_of base depth * 64 ≤ k → k < memory + base.0 * 64
        → get_or (empty_outside_of d memory base depth) k 0 ≡ get_or d k 0
    unfolding empty_outside_of
    empty_outside_of_keeps_window k from below =
        empty_rows_of_outside cut memory base.0 (15 - base.0) k (inl below)
        ∙ empty_rows_of_outside d memory 0 (above_of base depth) k (inr (omega arith))

    pub empty_outside_of_empties_above : (k : ℕ) → memory ≤ k → k < memory + above_of base depth * 64 → get_or (empty_outside_of d memory base depth) k 0 ≡ 0
    unfolding empty_outside_of empty_rows_of
    empty_outside_of_empties_above k from below =
        let whole = h.whole in
        empty_rows_of_outside cut memory base.0 (15 - base.0) k (inl (omega arith))
        ∙ wiped d (memory + 0 * 64) (above_of base depth * 64) k (omega arith) (omega arith) (omega arith)

    pub empty_outside_of_empties_below : (k : ℕ) → memory + base.0 * 64 ≤ k → k < memory + 960 → get_or (empty_outside_of d memory base depth) k 0 ≡ 0
    unfolding empty_outside_of empty_rows_of
    empty_outside_of_empties_below k from below =
        let whole = h.whole in
        wiped cut (memory + base.0 * 64) ((15 - base.0) * 64) k (omega (arith, length-empty_rows_of d memory 0 (above_of base depth))) (omega arith) (omega arith)

    pub empty_outside_of_outside : (k : ℕ) → Outside memory 960 k → get_or (empty_outside_of d memory base depth) k 0 ≡ get_or d k 0
    unfolding empty_outside_of
    empty_outside_of_outside k out =
        empty_rows_of_outside cut memory base.0 (15 - base.0) k (outside_part memory 960 (memory + base.0 * 64) ((15 - base.0) * 64) k (omega arith) (omega arith) out)
        ∙ empty_rows_of_outside d memory 0 (above_of base depth) k (outside_part memory 960 (memory + 0 * 64) (above_of base depth * 64) k (omega arith) (omega arith) out)

  -- "rows keeping their distance from it; .. all else is empty"
  module _ (old new : Row) (depth : ℕ) (from_fits : depth ≤ old.0) (from_high : old.0 ≤ 15) (to_fits : depth ≤ new.0) (to_high : new.0 ≤ 15) where
    abbrev from : ℕ
    from = memory + above_of old depth * 64

    abbrev to : ℕ
    to = memory + above_of new depth * 64

    moved_size : length (part d from (depth * 64)) ≡ depth * 64
    moved_size =
        let whole = h.whole in
        length-part d from (depth * 64) (omega arith)

    -- request 4: "No row is lost then." Byte j of the row at distance i above the base row, for every row of the window
    pub move_of_loses_no_row : (i j : ℕ) → i < depth → j < 64
        → get_or (move_of d memory old new depth) (memory + (new.0 - 1 - i) * 64 + j) 0 ≡ get_or d (memory + (old.0 - 1 - i) * 64 + j) 0
    unfolding move_of
    move_of_loses_no_row i j near small =
        let k = (depth - 1 - i) * 64 + j in
        let inside = in_window depth i j near small in
        let room = in_memory memory new.0 depth k to_high to_fits inside in
        let whole = lt_of_lt_of_le room h.whole in
        at_distance (over (empty_all_of d memory) to (part d from (depth * 64))) to (memory + (new.0 - 1 - i) * 64 + j) k
        (from_first memory new.0 depth i j to_fits near)
        ∙ in_over (empty_all_of d memory) to (part d from (depth * 64)) k (rw (length-empty_all_of d memory) whole) (rw moved_size inside)
        ∙ part_at d from (depth * 64) k inside
        ∙ ap (λ (n : ℕ). get_or d n 0) (sym (from_first memory old.0 depth i j from_fits near))

    pub move_of_empties_rest : (k : ℕ) → memory ≤ k → k < memory + 960 → Outside to (depth * 64) k → get_or (move_of d memory old new depth) k 0 ≡ 0
    unfolding move_of empty_all_of
    move_of_empties_rest k low high out =
        over_outside (empty_all_of d memory) to (depth * 64) (part d from (depth * 64)) k moved_size out
        ∙ wiped d memory 960 k h.whole low high

    pub move_of_outside : (k : ℕ) → Outside memory 960 k → get_or (move_of d memory old new depth) k 0 ≡ get_or d k 0
    unfolding move_of
    move_of_outside k out =
        over_outside (empty_all_of d memory) to (depth * 64) (part d from (depth * 64)) k moved_size (outside_part memory 960 to (depth * 64) k (omega arith) (omega arith) out)
        ∙ empty_all_of_outside d memory k out
