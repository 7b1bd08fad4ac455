-- How long a tape is: so many bytes an item at most, and `longest` in all; a row's items one by one; and what tapes and programmes are made of is whole pairs. Assumes nothing.
use mathlib.Core.Path.{◌≡◌, refl, sym, ap, ◌∙◌}
use mathlib.Core.List.{List, [], ◌∷◌, ◌++◌, append_assoc}
use Prim.Native.Nat.{ℕ, zero, suc, ◌+◌, ◌-◌, ◌*◌, ◌<◌, ◌≤◌}
use native.Mathlib.Omega.{arith}
use lib.Dec.{eqb, leb, ltb}
use lib.ListN.{length, length-append}
use borrow.Author.Tests.{lt-ltb, le-ltb}
use Rattle.facts.specs.Choice.{pick}
use Rattle.facts.proofs.Choice.{pick_cases}
use Rattle.wire.specs.Reel.{Pairs, pairs_of}
use Rattle.wire.proofs.LawsOfSent.{sent_of_byte}
use Rattle.wire.proofs.LawsOfReel.{pairs_then}
use Rattle.lines.specs.Span.{lead_of, end_of}
use Rattle.lines.proofs.Printed.{end_of_last}
use Rattle.tape.specs.declared.Item.{Item}
use Rattle.tape.specs.Item.{rcl_item, edm_item, enm_item, eoc_item, is_plain, gap_of, next_item_of, bytes_of, widest}
use Rattle.tape.specs.Preamble.{preamble_item_of}
use Rattle.tape.specs.Writable.{row_pen_of}
use Rattle.tape.specs.Tape.{code_before, item_at, items_of, rest_of, filled_row_of, row_tape_of, rows_tape_of, loading_of, tape_of, longest}
use Rattle.tape.specs.Programme.{nulls_of, Cue, show, clear, wait, cue_of, programme_of}

pub length_bytes_of : (channel : ℕ) (i : Item) → length (bytes_of channel i) ≤ widest
unfolding bytes_of
length_bytes_of channel i = pick_cases (λ (l : List ℕ). length l ≤ widest) (ltb i.first 0x20) (λ t. omega arith) (λ t. omega arith)

-- an item leads on a column at least
pub next_item_of_columns : (code next after : ℕ) → (1 ≤ (next_item_of code next after).columns) × ((next_item_of code next after).columns ≤ 3)
unfolding next_item_of
next_item_of_columns code next after =
    let gap : (1 ≤ gap_of next after) × (gap_of next after ≤ 3) =
    pick_cases (λ (j : ℕ). (1 ≤ j) × (j ≤ 3)) (eqb next 0) (λ t. pick_cases (λ (j : ℕ). (1 ≤ j) × (j ≤ 3)) (eqb after 0) (λ u. (omega arith, omega arith)) (λ u. (omega arith, omega arith))) (λ t. (omega arith, omega arith)) in
    pick_cases (λ (i : Item). (1 ≤ i.columns) × (i.columns ≤ 3)) (eqb code 0) (λ t. gap)
    (λ t. pick_cases (λ (i : Item). (1 ≤ i.columns) × (i.columns ≤ 3)) (leb 0x90 code) (λ u. (omega arith, omega arith))
    (λ u. pick_cases (λ (i : Item). (1 ≤ i.columns) × (i.columns ≤ 3)) (is_plain next) (λ v. (omega arith, omega arith)) (λ v. (omega arith, omega arith))))

module _ (channel : ℕ) (memory : List ℕ) where
  module _ (at end : ℕ) where
    length_items_of : (k most : ℕ) → length (items_of channel memory at end k most) ≤ most * widest
    length_items_of k zero = omega arith
    length_items_of k (suc most) =
        let i = item_at memory at end k in
        pick_cases (λ (l : List ℕ). length l ≤ suc most * widest) (ltb k end)
        (λ t. simp length-append (omega (arith, length_bytes_of channel i, length_items_of (k + i.columns) most))) (λ t. omega arith)

    pub length_rest_of : (k : ℕ) → length (rest_of channel memory at end k) ≤ (end - k) * widest
    unfolding rest_of
    length_rest_of k = length_items_of k (end - k)

    columns : (k : ℕ) → 1 ≤ (item_at memory at end k).columns
    columns k = (next_item_of_columns (code_before memory at end k) (code_before memory at end (k + 1)) (code_before memory at end (k + 2))).0

    -- so many at most is enough, and more say the same
    items_same : (k m n : ℕ) → end ≤ k + m → end ≤ k + n → items_of channel memory at end k m ≡ items_of channel memory at end k n
    items_same k zero zero p q = refl
    items_same k zero (suc n) p q = rw (le-ltb k end (omega arith))
    items_same k (suc m) zero p q = rw (le-ltb k end (omega arith))
    items_same k (suc m) (suc n) p q =
        let i = item_at memory at end k in
        let on = columns k in
        ap (λ (l : List ℕ). pick (ltb k end) (bytes_of channel i ++ l) []) (items_same (k + i.columns) m n (omega arith) (omega arith))

    pub rest_more : (k : ℕ) → k < end → rest_of channel memory at end k ≡ bytes_of channel (item_at memory at end k) ++ rest_of channel memory at end (k + (item_at memory at end k).columns)
    unfolding rest_of
    rest_more k h =
        let i = item_at memory at end k in
        let on = columns k in
        let left : end - k ≡ suc (end - k - 1) = omega arith in
        ap (items_of channel memory at end k) left
        ∙ rw (lt-ltb k end h) (ap (λ (l : List ℕ). bytes_of channel i ++ l) (items_same (k + i.columns) (end - k - 1) (end - (k + i.columns)) (omega arith) (omega arith)))

    pub rest_end : (k : ℕ) → end ≤ k → rest_of channel memory at end k ≡ []
    unfolding rest_of
    rest_end k h = let e : end - k ≡ 0 = omega arith in rw e

  pub length-row_tape_of : (row : ℕ) → length (row_tape_of channel memory row) ≤ 33 * widest
  unfolding row_tape_of filled_row_of
  length-row_tape_of row =
      let at = row * 64 in
      let end = end_of memory at 32 in
      let i = preamble_item_of row (row_pen_of memory at) (lead_of memory at 32) in
      let high = (end_of_last memory at 32).high in
      pick_cases (λ (l : List ℕ). length l ≤ 33 * widest) (eqb end 0) (λ t. omega arith)
      (λ t. simp length-append (omega (arith, length_bytes_of channel i, length_rest_of at end i.columns)))

  pub length-rows_tape_of : (n : ℕ) → length (rows_tape_of channel memory n) ≤ n * (33 * widest)
  unfolding rows_tape_of
  length-rows_tape_of zero = omega arith
  length-rows_tape_of (suc n) = simp length-append (omega (arith, length-rows_tape_of n, length-row_tape_of n))

  -- "4,096 bytes, enough for every writable screen"
  pub length-tape_of : length (tape_of memory channel) ≤ longest
  unfolding tape_of loading_of
  length-tape_of =
      simp length-append (omega (arith, length_bytes_of channel rcl_item, length_bytes_of channel enm_item, length_bytes_of channel eoc_item, length-rows_tape_of 15))

-- What it is made of is whole pairs of bytes.

pub bytes_of_pairs : (channel : ℕ) (i : Item) → Pairs (bytes_of channel i)
unfolding bytes_of
bytes_of_pairs channel i =
    let a = sent_of_byte (i.first + (channel - 1) * 8) in
    let b = sent_of_byte i.second in
    pick_cases Pairs (ltb i.first 0x20) (λ t. (a, b, (a, b, tt))) (λ t. (sent_of_byte i.first, b, tt))

pub nulls_of_pairs : (n : ℕ) → Pairs (nulls_of n)
nulls_of_pairs zero = tt
nulls_of_pairs (suc n) = (omega arith, omega arith, nulls_of_pairs n)

pub pairs_of-nulls_of : (n : ℕ) → pairs_of (nulls_of n) ≡ n
pairs_of-nulls_of zero = refl
pairs_of-nulls_of (suc n) = ap suc (pairs_of-nulls_of n)

module _ (channel : ℕ) (memory : List ℕ) where
  items_of_pairs : (at end k most : ℕ) → Pairs (items_of channel memory at end k most)
  items_of_pairs at end k zero = tt
  items_of_pairs at end k (suc most) =
      let i = item_at memory at end k in
      pick_cases Pairs (ltb k end) (λ t. pairs_then (bytes_of channel i) _ (bytes_of_pairs channel i) (items_of_pairs at end (k + i.columns) most)) (λ t. tt)

  row_tape_of_pairs : (row : ℕ) → Pairs (row_tape_of channel memory row)
  unfolding row_tape_of filled_row_of rest_of
  row_tape_of_pairs row =
      let at = row * 64 in
      let i = preamble_item_of row (row_pen_of memory at) (lead_of memory at 32) in
      pick_cases Pairs (eqb (end_of memory at 32) 0) (λ t. tt) (λ t. pairs_then (bytes_of channel i) _ (bytes_of_pairs channel i) (items_of_pairs at (end_of memory at 32) i.columns (end_of memory at 32 - i.columns)))

  rows_tape_of_pairs : (n : ℕ) → Pairs (rows_tape_of channel memory n)
  unfolding rows_tape_of
  rows_tape_of_pairs zero = tt
  rows_tape_of_pairs (suc n) = pairs_then (rows_tape_of channel memory n) _ (rows_tape_of_pairs n) (row_tape_of_pairs n)

  pub loading_of_pairs : Pairs (loading_of memory channel)
  unfolding loading_of
  loading_of_pairs =
      pairs_then (bytes_of channel rcl_item ++ bytes_of channel enm_item) _ (pairs_then (bytes_of channel rcl_item) _ (bytes_of_pairs channel rcl_item) (bytes_of_pairs channel enm_item)) (rows_tape_of_pairs 15)

  pub tape_of_pairs : Pairs (tape_of memory channel)
  unfolding tape_of
  tape_of_pairs = pairs_then (loading_of memory channel) _ loading_of_pairs (bytes_of_pairs channel eoc_item)

-- A programme.

pub cue_of_pairs : (c : Cue) → Pairs (cue_of c)
cue_of_pairs (show memory channel held) =
    pairs_then (loading_of memory channel) _ (loading_of_pairs channel memory) (pairs_then (nulls_of held) _ (nulls_of_pairs held) (bytes_of_pairs channel eoc_item))
cue_of_pairs (clear channel) = bytes_of_pairs channel edm_item
cue_of_pairs (wait n) = nulls_of_pairs n

pub programme_of_pairs : (cs : List Cue) → Pairs (programme_of cs)
programme_of_pairs [] = tt
programme_of_pairs (c ∷ more) = pairs_then (cue_of c) (programme_of more) (cue_of_pairs c) (programme_of_pairs more)

pub programme_of_then : (cs ds : List Cue) → programme_of (cs ++ ds) ≡ programme_of cs ++ programme_of ds
programme_of_then [] ds = refl
programme_of_then (c ∷ more) ds = ap (λ (l : List ℕ). cue_of c ++ l) (programme_of_then more ds) ∙ sym (append_assoc (cue_of c) (programme_of more) (programme_of ds))
