-- What the operations on a memory leave alone: the length of the cells, and every byte outside what each of them names. Assumes nothing.
use mathlib.Core.Path.{◌≡◌, refl, sym, ap, ◌∙◌}
use mathlib.Core.Logic.{◌⊎◌, inl, inr, ⊎_elim}
use mathlib.Core.Bool.{true}
use mathlib.Core.List.{List, [], ◌∷◌}
use Prim.Native.Nat.{ℕ, ◌+◌, ◌-◌, ◌*◌, ◌<◌, ◌≤◌}
use native.Mathlib.Nat.{add-zero, zero-add}
use native.Mathlib.Omega.{arith}
use lib.ListN.{length, get_or, replicate, length-replicate}
use lib.Seq.{ext_get_or}
use Rattle.facts.specs.Over.{over, part}
use Rattle.facts.proofs.Choice.{below_cases}
use Rattle.facts.proofs.Every.{same_equal, equal_same, blank_at, blank_of_lem}
use Rattle.facts.proofs.Over.{length-over, before_over, behind_over, in_over, length-part, part_at}
use Rattle.cell.specs.declared.Row.{Row}
use Rattle.cell.specs.declared.Column.{Column}
use Rattle.cell.specs.Place.{cell_at}
use Rattle.page.specs.Page.{write_cell_of, empty_cell_of, empty_from_of, empty_rows_of, empty_all_of, exchanged_of, is_empty_of, same_screen_of}

-- byte k is none of the n from place `at` on
abbrev pub Outside : ℕ → ℕ → ℕ → Type 0
Outside at n k = (k < at) ⊎ (at + n ≤ k)

-- what lies outside stays
pub over_outside : (d : List ℕ) (at n : ℕ) (s : List ℕ) (k : ℕ) → length s ≡ n → Outside at n k → get_or (over d at s) k 0 ≡ get_or d k 0
over_outside d at n s k e h = ⊎_elim (λ low. before_over d at s k low) (λ high. behind_over d at s k (omega arith)) h

-- what lies outside a span lies outside any part of it
pub outside_part : (at n inner m k : ℕ) → at ≤ inner → inner + m ≤ at + n → Outside at n k → Outside inner m k
outside_part at n inner m k low high h = ⊎_elim (λ l. inl (omega arith)) (λ g. inr (omega arith)) h

-- a part of d that goes back to its own place, over a list that is d outside it, makes d
pub over_own : (w d : List ℕ) (at n : ℕ) → length w ≡ length d → at + n ≤ length d
    → ((k : ℕ) → k < length d → Outside at n k → get_or w k 0 ≡ get_or d k 0) → over w at (part d at n) ≡ d
over_own w d at n e fits rest =
    let s = part d at n in
    let size = length-part d at n fits in
    let whole = length-over w at s in
    ext_get_or 0 (over w at s) d (whole ∙ e)
    (λ k b.
    let here : k < length d = omega arith in
    below_cases k at (λ low. before_over w at s k low ∙ rest k here (inl low))
    (λ from. below_cases k (at + n)
    (λ below.
    let at_k : k ≡ at + (k - at) = omega arith in
    ap (λ (i : ℕ). get_or (over w at s) i 0) at_k
    ∙ in_over w at s (k - at) (omega arith) (omega arith)
    ∙ part_at d at n (k - at) (omega arith)
    ∙ ap (λ (i : ℕ). get_or d i 0) (sym at_k))
    (λ high. behind_over w at s k (omega arith) ∙ rest k here (inr high))))

module _ (d : List ℕ) (memory : ℕ) where
  -- The cells keep their length, whatever is done to a memory.

  pub length-write_cell_of : (row : Row) (column : Column) (code pen : ℕ) → length (write_cell_of d memory row column code pen) ≡ length d
  unfolding write_cell_of
  length-write_cell_of row column code pen = length-over d _ _

  pub length-empty_cell_of : (row : Row) (column : Column) → length (empty_cell_of d memory row column) ≡ length d
  unfolding empty_cell_of
  length-empty_cell_of row column = length-over d _ _

  pub length-empty_from_of : (row : Row) (column : Column) → length (empty_from_of d memory row column) ≡ length d
  unfolding empty_from_of
  length-empty_from_of row column = length-over d _ _

  pub length-empty_rows_of : (above n : ℕ) → length (empty_rows_of d memory above n) ≡ length d
  unfolding empty_rows_of
  length-empty_rows_of above n = length-over d _ _

  pub length-empty_all_of : length (empty_all_of d memory) ≡ length d
  unfolding empty_all_of
  length-empty_all_of = length-over d _ _

  -- Every byte outside what an operation names stays.

  pub write_cell_of_outside : (row : Row) (column : Column) (code pen k : ℕ) → Outside (cell_at memory row column) 2 k
      → get_or (write_cell_of d memory row column code pen) k 0 ≡ get_or d k 0
  unfolding write_cell_of
  write_cell_of_outside row column code pen k h = over_outside d (cell_at memory row column) 2 (code ∷ pen ∷ []) k refl h

  pub empty_cell_of_outside : (row : Row) (column : Column) (k : ℕ) → Outside (cell_at memory row column) 2 k
      → get_or (empty_cell_of d memory row column) k 0 ≡ get_or d k 0
  unfolding empty_cell_of
  empty_cell_of_outside row column k h = over_outside d (cell_at memory row column) 2 (0 ∷ 0 ∷ []) k refl h

  pub empty_from_of_outside : (row : Row) (column : Column) (k : ℕ) → Outside (cell_at memory row column) (66 - column.0 * 2) k
      → get_or (empty_from_of d memory row column) k 0 ≡ get_or d k 0
  unfolding empty_from_of
  empty_from_of_outside row column k h = over_outside d (cell_at memory row column) (66 - column.0 * 2) _ k (length-replicate (66 - column.0 * 2) 0) h

  pub empty_rows_of_outside : (above n k : ℕ) → Outside (memory + above * 64) (n * 64) k → get_or (empty_rows_of d memory above n) k 0 ≡ get_or d k 0
  unfolding empty_rows_of
  empty_rows_of_outside above n k h = over_outside d (memory + above * 64) (n * 64) _ k (length-replicate (n * 64) 0) h

  pub empty_all_of_outside : (k : ℕ) → Outside memory 960 k → get_or (empty_all_of d memory) k 0 ≡ get_or d k 0
  unfolding empty_all_of
  empty_all_of_outside k h = over_outside d memory 960 (replicate 960 0) k (length-replicate {A = ℕ} 960 0) h

-- What was written stands there: code, then pen.

-- a memory emptied, as the code wipes it
pub empty_all_of_is : (d : List ℕ) (memory : ℕ) → over d memory (replicate 960 0) ≡ empty_all_of d memory
unfolding empty_all_of
empty_all_of_is d memory = refl

pub write_cell_of_code : (d : List ℕ) (memory : ℕ) (row : Row) (column : Column) (code pen : ℕ) → cell_at memory row column + 2 ≤ length d
    → get_or (write_cell_of d memory row column code pen) (cell_at memory row column) 0 ≡ code
unfolding write_cell_of
write_cell_of_code d memory row column code pen h =
    rw add-zero at (in_over d (cell_at memory row column) (code ∷ pen ∷ []) 0 (omega arith) (omega arith))

pub write_cell_of-pen : (d : List ℕ) (memory : ℕ) (row : Row) (column : Column) (code pen : ℕ) → cell_at memory row column + 2 ≤ length d
    → get_or (write_cell_of d memory row column code pen) (cell_at memory row column + 1) 0 ≡ pen
unfolding write_cell_of
write_cell_of-pen d memory row column code pen h = in_over d (cell_at memory row column) (code ∷ pen ∷ []) 1 (omega arith) (omega arith)

-- "exchanges the memories": each has what the other had.

pub length-exchanged_of : (d : List ℕ) → length (exchanged_of d) ≡ length d
unfolding exchanged_of
length-exchanged_of d = simp length-over

pub exchanged_of-displayed : (d : List ℕ) (k : ℕ) → 1920 ≤ length d → k < 960 → get_or (exchanged_of d) k 0 ≡ get_or d (960 + k) 0
unfolding exchanged_of
exchanged_of-displayed d k size h =
    let n = length-part d 960 960 size in
    before_over (over d 0 (part d 960 960)) 960 (part d 0 960) k h
    ∙ rw zero-add at (in_over d 0 (part d 960 960) k (omega arith) (omega arith))
    ∙ part_at d 960 960 k h

pub exchanged_of-non_displayed : (d : List ℕ) (k : ℕ) → 1920 ≤ length d → k < 960 → get_or (exchanged_of d) (960 + k) 0 ≡ get_or d k 0
unfolding exchanged_of
exchanged_of-non_displayed d k size h =
    let n = length-part d 0 960 (omega arith) in
    in_over (over d 0 (part d 960 960)) 960 (part d 0 960) k (omega (arith, length-over d 0 (part d 960 960))) (omega arith)
    ∙ part_at d 0 960 k h
    ∙ ap (λ (i : ℕ). get_or d i 0) (zero-add k)

-- A screen is empty, or is another's equal, exactly where every byte is 0, or the same.

pub is_empty_of_at : (d : List ℕ) (memory k : ℕ) → is_empty_of d memory ≡ true → k < 960 → get_or d (memory + k) 0 ≡ 0
unfolding is_empty_of
is_empty_of_at d memory k e h = blank_at d memory 960 e k h

pub is_empty_of_of : (d : List ℕ) (memory : ℕ) → ((k : ℕ) → k < 960 → get_or d (memory + k) 0 ≡ 0) → is_empty_of d memory ≡ true
unfolding is_empty_of
is_empty_of_of d memory h = blank_of_lem d memory 960 h

pub same_screen_of_equal : (a b : List ℕ) → length a ≡ 960 → length b ≡ 960 → same_screen_of a b ≡ true → a ≡ b
unfolding same_screen_of
same_screen_of_equal a b p q e = same_equal a b 960 p q e

pub equal_same_screen_of : (a b : List ℕ) → a ≡ b → same_screen_of a b ≡ true
unfolding same_screen_of
equal_same_screen_of a b e = equal_same a b 960 e
