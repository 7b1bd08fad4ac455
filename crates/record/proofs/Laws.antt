-- The laws of records: their size, both round trips, the record in place, and the fresh one. Assumes nothing.
use mathlib.Core.Path.{◌≡◌, refl, ap, sym, ◌∙◌}
use mathlib.Core.Bool.{true}
use mathlib.Core.List.{List, [], ◌∷◌, ◌++◌, append_assoc, append-nil}
use Prim.Native.Nat.{ℕ, zero, suc, ◌+◌, ◌*◌, ◌/◌, ◌%◌, ◌<◌, ◌≤◌}
use native.Mathlib.Omega.{arith}
use lib.ListN.{length, get_or, take, drop, replicate, length-append, length-drop, length-replicate, get_or-replicate, take-append-drop, drop_of_length-le}
use lib.Seq.{take_all, take-add, take_at, drop_at, drop-cons, drop-drop, length-take-le, ext_get_or}
use borrow.Rule.Slice.PartMut.{put_mid}
use Rattle.facts.specs.Every.{blank_of}
use Rattle.facts.specs.Over.{over, part}
use Rattle.facts.proofs.Every.{blank_at}
use Rattle.facts.proofs.Over.{drop-over, over_then, over_front, length-part, part_at}
use Rattle.state.specs.declared.State.{State}
use Rattle.state.specs.State.{Desk, desk, state, fresh_of}
use Rattle.decode.specs.Step.{fresh_desk}
use Rattle.record.specs.Layout.{fields_of, counts_of, head_of, state_of, record_of, read_of, are_counted, fresh_record}
use Rattle.record.proofs.LawsOfCounts.{length-counts_of, counts_of_zeros, are_counted_counts, counts_are_counted}

-- Size.

pub length_head_of : (d : Desk) → length (head_of d) ≡ 64
unfolding head_of
length_head_of d =
    let rest = length-append (counts_of d.cells) (replicate 15 0) ∙ ap (λ (n : ℕ). n + 15) (length-counts_of d.cells) in
    length-append (fields_of d.state) (counts_of d.cells ++ replicate 15 0) ∙ ap (λ (n : ℕ). 19 + n) rest

pub length-record_of : (d : Desk) → length d.cells ≡ 1920 → length (record_of d) ≡ 1984
length-record_of d h = length-append (head_of d) d.cells ∙ (λ i. length_head_of d i + h i)

-- Round trips.

pub cells_record_of : (d : Desk) → drop 64 (record_of d) ≡ d.cells
cells_record_of d = drop_at (head_of d) d.cells 64 (length_head_of d)

pub state_of_record_of : (d : Desk) → state_of (record_of d) ≡ d.state
unfolding head_of state_of
state_of_record_of d =
    let s = d.state in
    let n : s.acts % 256 + s.acts / 256 * 256 ≡ s.acts = omega arith in
    λ i. state (n i) s.selected s.stream s.first s.second s.mode

pub read_of_record_of : (d : Desk) → read_of (record_of d) ≡ d
read_of_record_of d = λ i. desk (state_of_record_of d i) (cells_record_of d i)

-- n numbers from place `at` on, one by one
abbrev listed : List ℕ → ℕ → ℕ → List ℕ
listed bs at zero = []
listed bs at (suc n) = get_or bs at 0 ∷ listed bs (suc at) n

listed-part : (bs : List ℕ) (at n : ℕ) → at + n ≤ length bs → listed bs at n ≡ part bs at n
listed-part bs at zero h = refl
listed-part bs at (suc n) h =
    ap (λ (l : List ℕ). get_or bs at 0 ∷ l) (listed-part bs (suc at) n (omega arith)) ∙ ap (take (suc n)) (sym (drop-cons bs at 0 (omega arith)))

blank_part : (bs : List ℕ) (at n : ℕ) → at + n ≤ length bs → blank_of bs at n ≡ true → part bs at n ≡ replicate n 0
blank_part bs at n h e =
    let size = length-part bs at n h in
    ext_get_or 0 (part bs at n) (replicate n 0) (size ∙ sym (length-replicate n 0))
    (λ i l. part_at bs at n i (omega arith) ∙ blank_at bs at n e i (omega arith) ∙ sym (get_or-replicate n i 0 0 (omega arith)))

-- parts that lie one behind the other, up to the end, are the whole
parts_whole : (bs : List ℕ) (n k : ℕ) {p q : List ℕ} → p ≡ part bs 0 n → part bs n k ≡ q → (p ++ q) ++ drop (n + k) bs ≡ bs
parts_whole bs n k {p} {q} e f =
    append_assoc p q (drop (n + k) bs)
    ∙ (λ i. e i ++ (sym f i ++ sym (drop-drop k n bs) i))
    ∙ ap (λ (l : List ℕ). take n bs ++ l) (take-append-drop k (drop n bs))
    ∙ take-append-drop n bs

-- writing what was read gives the bytes back, where the counts are right and bytes 49 to 63 are zero
pub record_of-counted : (bs : List ℕ) → length bs ≡ 1984 → are_counted bs ≡ true → blank_of bs 49 15 ≡ true → get_or bs 0 0 < 256 → record_of (read_of bs) ≡ bs
unfolding head_of state_of
record_of-counted bs size counts zeros small =
    let low : (get_or bs 0 0 + get_or bs 1 0 * 256) % 256 ≡ get_or bs 0 0 = omega arith in
    let high : (get_or bs 0 0 + get_or bs 1 0 * 256) / 256 ≡ get_or bs 1 0 = omega arith in
    let fields = (λ i. low i ∷ high i ∷ listed bs 2 17) ∙ listed-part bs 0 19 (omega arith) in
    let rest = ap (take 15) (drop-drop 30 19 bs) ∙ blank_part bs 49 15 (omega arith) zeros in
    parts_whole bs 19 45 fields (take-add 30 15 (drop 19 bs) ∙ (λ i. are_counted_counts bs size counts i ++ rest i))

-- and so it is in what was written
pub are_counted-record_of : (d : Desk) → are_counted (record_of d) ≡ true
unfolding head_of
are_counted-record_of d =
    let counts = counts_of d.cells in
    counts_are_counted (record_of d)
    (ap (take 30) (append_assoc counts (replicate 15 0) d.cells) ∙ take_at counts (replicate 15 0 ++ d.cells) 30 (length-counts_of d.cells)
    ∙ ap counts_of (sym (cells_record_of d)))

pub zeros_record_of : (d : Desk) → blank_of (record_of d) 49 15 ≡ true
unfolding head_of counts_of blank_of
zeros_record_of d = refl

-- A record that is worked on in place.

-- the part that is lent as its cells is the cells of the desk that is read from it
pub lent_cells : (bs : List ℕ) → length bs ≡ 1984 → take 1920 (drop 64 bs) ≡ drop 64 bs
lent_cells bs h =
    let few : length (drop 64 bs) ≤ 1920 = simp length-drop (omega arith) in
    take_all 1920 (drop 64 bs) few

-- the cells were lent and came back
pub cells_back : (bs cells : List ℕ) → length bs ≡ 1984 → length cells ≡ 1920 → drop 64 (put_mid 64 1920 bs cells) ≡ cells
cells_back bs cells hb hc =
    let few : length (drop 64 bs) ≤ 1920 = simp length-drop (omega arith) in
    drop_at (take 64 bs) (cells ++ drop 1920 (drop 64 bs)) 64 (length-take-le 64 bs (omega arith))
    ∙ ap (λ (l : List ℕ). cells ++ l) (drop_of_length-le (drop 64 bs) few) ∙ append-nil cells

-- fields, counts and zeros were written one behind the other: the head is made anew, from the state and from the cells behind it
pub head_written : (bs : List ℕ) (s : State) {fields counts zeros : List ℕ} → length bs ≡ 1984 → fields ≡ over bs 0 (fields_of s)
    → counts ≡ over fields 19 (counts_of (drop 64 fields)) → zeros ≡ over counts 49 (replicate 15 0) → zeros ≡ record_of (desk s (drop 64 bs))
unfolding head_of
head_written bs s {fields} {counts} {zeros} size e f g =
    let d = desk s (drop 64 bs) in
    let c = counts_of (drop 64 bs) in
    let behind = ap (drop 64) e ∙ drop-over bs 0 (fields_of s) 64 (omega arith) in
    let both = over_then bs 0 (fields_of s) c 19 refl e (f ∙ ap (λ (l : List ℕ). over fields 19 (counts_of l)) behind) in
    let size_both = length-append (fields_of s) c ∙ ap (λ (n : ℕ). 19 + n) (length-counts_of (drop 64 bs)) in
    let long : 49 ≡ 0 + length (fields_of s ++ c) = omega arith in
    over_then bs 0 (fields_of s ++ c) (replicate 15 0) 49 long both g
    ∙ ap (over bs 0) (append_assoc (fields_of s) c (replicate 15 0))
    ∙ over_front bs (head_of d) 64 (length_head_of d) (omega arith)

-- "The fresh record is one fixed thing"
pub record_of-fresh_desk : record_of fresh_desk ≡ fresh_record
unfolding head_of fresh_desk
record_of-fresh_desk = ap (λ (counts : List ℕ). (fields_of (fresh_of 1) ++ (counts ++ replicate 15 0)) ++ replicate 1920 0) (counts_of_zeros 1920)
