-- What the writer lays item by item and row by row is the tape, and what it refuses is what the paper refuses. Assumes nothing.
use mathlib.Core.Path.{◌≡◌, refl, sym, ap, ◌∙◌}
use mathlib.Core.List.{List, [], ◌++◌}
use Prim.Native.Nat.{ℕ, zero, suc, ◌+◌, ◌-◌, ◌*◌, ◌<◌, ◌≤◌}
use native.Mathlib.Numerals.{add-one}
use native.Mathlib.Omega.{arith}
use lib.ListN.{length, length-append}
use borrow.Author.Tests.{eq-eqb, ne_eqb, lt-ltb, le-ltb}
use borrow.Rule.Slice.PartMut.{put_mid}
use Rattle.facts.proofs.Choice.{below_cases}
use Rattle.record.specs.Layout.{code_at}
use Rattle.lines.specs.Span.{lead_of, end_of}
use Rattle.lines.proofs.Printed.{lead_of_first, end_of_last}
use Rattle.tape.specs.declared.Item.{Item}
use Rattle.tape.specs.Item.{rcl_item, enm_item, eoc_item, next_item_of, bytes_of}
use Rattle.tape.specs.Preamble.{preamble_item_of}
use Rattle.tape.specs.Writable.{row_pen_of}
use Rattle.tape.specs.Tape.{code_before, item_at, rest_of, filled_row_of, row_tape_of, rows_tape_of, loading_of, tape_of}
use Rattle.tape.proofs.LawsOfSizes.{next_item_of_columns, rest_more}
use Rattle.items.specs.Laid.{Laid}
use Rattle.items.proofs.LawsOfLaid.{tail_of, laid_then}

-- The items of a row.

module _ (memory : List ℕ) (at end k : ℕ) where
  pub code_inside : k < end → code_at memory at k ≡ code_before memory at end k
  unfolding code_before
  code_inside h = rw (lt-ltb k end h)

  pub code_behind : end ≤ k → 0x80 ≡ code_before memory at end k
  unfolding code_before
  code_behind h = rw (le-ltb k end h)

  pub item-joined : {i : Item} {code next after : ℕ} → i ≡ next_item_of code next after → code ≡ code_before memory at end k → next ≡ code_before memory at end (k + 1)
      → after ≡ code_before memory at end (k + 2) → (i ≡ item_at memory at end k) × (1 ≤ i.columns) × (i.columns ≤ 3)
  item-joined {i} e c n a =
      let own : i ≡ item_at memory at end k = e ∙ (λ j. next_item_of (c j) (n j) (a j)) in
      let on = next_item_of_columns (code_before memory at end k) (code_before memory at end (k + 1)) (code_before memory at end (k + 2)) in
      (own, rw own on.0, rw own on.1)

  pub items_more : (channel : ℕ) (i : Item) → k < end → i ≡ item_at memory at end k
      → rest_of channel memory at end k ≡ bytes_of channel i ++ rest_of channel memory at end (k + i.columns)
  items_more channel i h e =
      rest_more channel memory at end k h ∙ (λ j. bytes_of channel (sym e j) ++ rest_of channel memory at end (k + (sym e j).columns))

-- A row.

-- a row that has a last cell has a first one
pub lead_inside : (memory : List ℕ) (at : ℕ) → (end_of memory at 32 ≡ 0 → ⊥) → lead_of memory at 32 < 32
lead_inside memory at some =
    let last = end_of_last memory at 32 in
    let high = last.high in
    let k = end_of memory at 32 - 1 in
    below_cases (lead_of memory at 32) 32 (λ h. h)
    (λ h. absurd (last.filled k (omega arith) ((lead_of_first memory at 32).empty k (omega arith))))

module _ (channel : ℕ) (memory : List ℕ) (row end : ℕ) (e : end ≡ end_of memory (row * 64) 32) where
  pub row_none : end ≡ 0 → row_tape_of channel memory row ≡ []
  unfolding row_tape_of
  row_none none = rw (eq-eqb (end_of memory (row * 64) 32) 0 (sym e ∙ none))

  pub row_some : (pen lead : ℕ) (i : Item) → (end ≡ 0 → ⊥) → pen ≡ row_pen_of memory (row * 64) → lead ≡ lead_of memory (row * 64) 32
      → i ≡ preamble_item_of row pen lead → row_tape_of channel memory row ≡ bytes_of channel i ++ rest_of channel memory (row * 64) end i.columns
  unfolding row_tape_of filled_row_of
  row_some pen lead i some p l f =
      let own : preamble_item_of row (row_pen_of memory (row * 64)) (lead_of memory (row * 64) 32) ≡ i = (λ k. preamble_item_of row (sym p k) (sym l k)) ∙ sym f in
      rw (ne_eqb (end_of memory (row * 64) 32) 0 (λ z. some (e ∙ z)))
      (λ k. bytes_of channel (own k) ++ rest_of channel memory (row * 64) (sym e k) (own k).columns)

-- All rows.

module _ (channel : ℕ) (memory : List ℕ) where
  pub rows_none : rows_tape_of channel memory 0 ≡ []
  unfolding rows_tape_of
  rows_none = refl

  pub rows-one_more : (row : ℕ) → rows_tape_of channel memory row ++ row_tape_of channel memory row ≡ rows_tape_of channel memory (row + 1)
  unfolding rows_tape_of
  rows-one_more row = ap (rows_tape_of channel memory) (sym (add-one row))

  -- the first rows have no more bytes than all
  rows_grow : (row n : ℕ) → row ≤ n → length (rows_tape_of channel memory row) ≤ length (rows_tape_of channel memory n)
  unfolding rows_tape_of
  rows_grow row zero h = let e : row ≡ 0 = omega arith in rw e (omega arith)
  rows_grow row (suc n) h =
      below_cases row (suc n) (λ g. simp length-append (omega (arith, rows_grow row n (omega arith)))) (λ g. let e : row ≡ suc n = omega arith in rw e (omega arith))

  module _ (out : List ℕ) (row : ℕ) (h : row < 15) (room : length (rows_tape_of channel memory 15) ≤ length out) where
    pub rows-room : length (rows_tape_of channel memory row ++ row_tape_of channel memory row) ≤ length out
    rows-room = rw (rows-one_more row) (omega (arith, rows_grow (row + 1) 15 (omega arith)))

    pub rows_more : {o left : List ℕ} {n k : ℕ} → Laid out (rows_tape_of channel memory row) o n → Laid (tail_of o n) (row_tape_of channel memory row) left k
        → Laid out (rows_tape_of channel memory (row + 1)) (put_mid n (length o - n) o left) (n + k)
    rows_more p q = rw (rows-one_more row) at (laid_then out _ _ rows-room p q)

-- The whole tape.

pub tape_parts : (channel : ℕ) (memory : List ℕ)
    → ((bytes_of channel rcl_item ++ bytes_of channel enm_item) ++ rows_tape_of channel memory 15) ++ bytes_of channel eoc_item ≡ tape_of memory channel
unfolding tape_of loading_of
tape_parts channel memory = refl
