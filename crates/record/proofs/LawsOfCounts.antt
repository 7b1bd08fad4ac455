-- The counts of a record: how many there are, each of them by its row, the loop that writes them, and when they are right. Assumes nothing.
use mathlib.Core.Path.{◌≡◌, refl, ap, sym, ◌∙◌}
use mathlib.Core.Bool.{true}
use mathlib.Core.List.{List, [], ◌∷◌, ◌++◌}
use Prim.Native.Nat.{ℕ, zero, suc, ◌+◌, ◌*◌, ◌<◌}
use native.Mathlib.Nat.{not-suc-le-zero}
use native.Mathlib.Numerals.{add-one}
use native.Mathlib.Omega.{arith}
use lib.ListN.{length, get_or, set, drop, replicate, length-append, get_or-append}
use lib.Seq.{get_or_at, ext_get_or}
use Rattle.facts.specs.Over.{over, part}
use Rattle.facts.proofs.Choice.{below_cases}
use Rattle.facts.proofs.Every.{same_equal, equal_same, blank_of_lem}
use Rattle.facts.proofs.Over.{drop-over, over_snoc, length-part, part_at}
use Rattle.page.specs.Page.{filled_from, count_row_of}
use Rattle.page.proofs.LawsOfCounts.{filled_from-blank, filled_from-drop}
use Rattle.record.specs.Layout.{counts_of, are_counted, Counted}

-- The rows of both memories lie one behind the other: the counts of the first n of these thirty.

abbrev pub counts_to : List ℕ → ℕ → List ℕ
counts_to cells zero = []
counts_to cells (suc n) = counts_to cells n ++ (filled_from cells (n * 64) 32 ∷ [])

pub counts_of-rows : (cells : List ℕ) → counts_of cells ≡ counts_to cells 30
unfolding counts_of count_row_of
counts_of-rows cells = refl

length_counts_to : (cells : List ℕ) (n : ℕ) → length (counts_to cells n) ≡ n
length_counts_to cells zero = refl
length_counts_to cells (suc n) =
    let h = length_counts_to cells n in
    length-append (counts_to cells n) (filled_from cells (n * 64) 32 ∷ []) ∙ omega arith

pub length-counts_of : (cells : List ℕ) → length (counts_of cells) ≡ 30
length-counts_of cells = ap length (counts_of-rows cells) ∙ length_counts_to cells 30

-- each of them by its row
counts_to_at : (cells : List ℕ) (n k : ℕ) → k < n → get_or (counts_to cells n) k 0 ≡ filled_from cells (k * 64) 32
counts_to_at cells zero k h = absurd (not-suc-le-zero h)
counts_to_at cells (suc n) k h =
    let size = length_counts_to cells n in
    below_cases k n
    (λ t. get_or-append (counts_to cells n) _ 0 k (omega arith) ∙ counts_to_at cells n k t)
    (λ t.
    let e : k ≡ n = omega arith in
    ap (λ (j : ℕ). get_or (counts_to cells (suc n)) j 0) e ∙ get_or_at (counts_to cells n) _ [] 0 n size
    ∙ ap (λ (j : ℕ). filled_from cells (j * 64) 32) (sym e))

counts_of_at : (cells : List ℕ) (k : ℕ) → k < 30 → get_or (counts_of cells) k 0 ≡ filled_from cells (k * 64) 32
counts_of_at cells k h = ap (λ (l : List ℕ). get_or l k 0) (counts_of-rows cells) ∙ counts_to_at cells 30 k h

-- where nothing is filled each count is 0
zeros_at : (n k : ℕ) → get_or {A = ℕ} (replicate n 0) k 0 ≡ 0
zeros_at zero k = refl
zeros_at (suc n) zero = refl
zeros_at (suc n) (suc k) = zeros_at n k

pub counts_of_zeros : (n : ℕ) → counts_of (replicate n 0) ≡ replicate 30 0
counts_of_zeros n =
    let cells : List ℕ = replicate n 0 in
    let size = length-counts_of cells in
    ext_get_or 0 (counts_of cells) (replicate 30 0) size
    (λ k h.
    counts_of_at cells k (omega arith) ∙ filled_from-blank cells (k * 64) 32 (blank_of_lem cells (k * 64) 64 (λ i l. zeros_at n (k * 64 + i))) ∙ sym (zeros_at 30 k))

-- in the bytes of a record, whose cells begin at byte 64
count_of : (bs : List ℕ) (k : ℕ) → k < 30 → get_or (counts_of (drop 64 bs)) k 0 ≡ filled_from bs (64 + k * 64) 32
count_of bs k h = counts_of_at (drop 64 bs) k h ∙ filled_from-drop bs 64 (k * 64) 32

-- one turn of the loop that writes them: row r is counted in what the rows before it have left, which is their cells as they were
pub counts_more : (bs : List ℕ) (r : ℕ) {o : List ℕ} {v : ℕ} → r < 30 → o ≡ over bs 19 (counts_to (drop 64 bs) r) → v ≡ filled_from o (64 + r * 64) 32
    → set o (19 + r) v ≡ over bs 19 (counts_to (drop 64 bs) (r + 1))
counts_more bs r {o} {v} h e f =
    let counts = counts_to (drop 64 bs) r in
    let size = length_counts_to (drop 64 bs) r in
    let same : drop 64 o ≡ drop 64 bs = ap (drop 64) e ∙ drop-over bs 19 counts 64 (omega arith) in
    let count : v ≡ filled_from (drop 64 bs) (r * 64) 32 = f ∙ sym (filled_from-drop o 64 (r * 64) 32) ∙ ap (λ (l : List ℕ). filled_from l (r * 64) 32) same in
    (λ i. set (e i) (19 + r) (count i)) ∙ over_snoc bs 19 counts r _ size ∙ ap (λ (n : ℕ). over bs 19 (counts_to (drop 64 bs) n)) (sym (add-one r))

-- When they are right: as one list, and row by row.

pub are_counted_counts : (bs : List ℕ) → length bs ≡ 1984 → are_counted bs ≡ true → part bs 19 30 ≡ counts_of (drop 64 bs)
unfolding are_counted
are_counted_counts bs size e = same_equal (part bs 19 30) (counts_of (drop 64 bs)) 30 (length-part bs 19 30 (omega arith)) (length-counts_of (drop 64 bs)) e

pub counts_are_counted : (bs : List ℕ) → part bs 19 30 ≡ counts_of (drop 64 bs) → are_counted bs ≡ true
unfolding are_counted
counts_are_counted bs e = equal_same (part bs 19 30) (counts_of (drop 64 bs)) 30 e

pub are_counted_at : (bs : List ℕ) → length bs ≡ 1984 → are_counted bs ≡ true → (k : ℕ) → k < 30 → Counted bs k
are_counted_at bs size e k h =
    sym (part_at bs 19 30 k h) ∙ ap (λ (l : List ℕ). get_or l k 0) (are_counted_counts bs size e) ∙ count_of bs k h

pub are_counted_of : (bs : List ℕ) → length bs ≡ 1984 → ((k : ℕ) → k < 30 → Counted bs k) → are_counted bs ≡ true
are_counted_of bs size e =
    let long = length-part bs 19 30 (omega arith) in
    counts_are_counted bs
    (ext_get_or 0 (part bs 19 30) (counts_of (drop 64 bs)) (long ∙ sym (length-counts_of (drop 64 bs)))
    (λ k h.
    let l : k < 30 = omega arith in
    part_at bs 19 30 k l ∙ e k l ∙ sym (count_of bs k l)))
