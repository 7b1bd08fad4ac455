-- A tape is RCL, ENM, rows of preambles, tabs and characters, and EOC, every control pair twice; every byte has odd parity, and no pair begins with a null. Assumes nothing.
use mathlib.Core.Path.{◌≡◌, sym, ap, subst}
use mathlib.Core.Bool.{true}
use mathlib.Core.List.{List, [], ◌∷◌, ◌++◌, append-nil}
use Prim.Native.Nat.{ℕ, zero, suc, ◌+◌, ◌-◌, ◌*◌, ◌<◌, ◌≤◌}
use native.Mathlib.Omega.{arith}
use lib.Dec.{eqb, leb, ltb}
use borrow.Author.Tests.{lt-ltb, le-ltb, ltb-true, eqb-false, leb-true, le-leb, lt-leb}
use Rattle.facts.specs.Choice.{pick}
use Rattle.facts.proofs.Choice.{pick_cases, and_left, and_right}
use Rattle.wire.specs.Byte.{low_seven, sent_of}
use Rattle.wire.proofs.LawsOfSent.{is_good-sent_of, low_seven-sent_of}
use Rattle.codes.specs.Assigned.{is_unassigned}
use Rattle.record.specs.Layout.{code_at}
use Rattle.lines.specs.Span.{lead_of, end_of}
use Rattle.lines.proofs.Printed.{end_of_last}
use Rattle.tape.specs.declared.Item.{Item}
use Rattle.tape.specs.Item.{item, rcl_item, enm_item, eoc_item, is_plain, gap_of, next_item_of, bytes_of}
use Rattle.tape.specs.Preamble.{preamble_item_of}
use Rattle.tape.specs.Writable.{are_cells, row_pen_of, is_writable}
use Rattle.tape.specs.Tape.{code_before, item_at, items_of, rest_of, filled_row_of, row_tape_of, rows_tape_of, loading_of, tape_of}
use Rattle.tape.specs.Kinds.{twice_of, once_of, Printing, Cells, end, tab, special, one, two, Rows, top, row, Made, made, AllGood, NoNull}
use Rattle.tape.proofs.LawsOfCodes.{addressed}
use Rattle.tape.proofs.LawsOfWritable.{code_kinds, Fine, fine}
use Rattle.tape.proofs.LawsOfRows.{before_here, lead_before_end}

-- An item's bytes, by its first value.

module _ (channel : ℕ) (i : Item) where
  pub bytes_of_control : i.first < 0x20 → bytes_of channel i ≡ twice_of channel i.first i.second
  unfolding bytes_of
  bytes_of_control h = rw (lt-ltb i.first 0x20 h)

  pub bytes_of_characters : 0x20 ≤ i.first → bytes_of channel i ≡ once_of i.first i.second
  unfolding bytes_of
  bytes_of_characters h = rw (le-ltb i.first 0x20 h)

-- The items of a row.

module _ (channel : ℕ) (memory : List ℕ) (at pen last : ℕ) (f : Fine memory at pen) (wide : last ≤ 32) where
  -- an item before bytes that are cells
  abbrev Goes : Item → Type 0
  Goes i = (s : List ℕ) → Cells channel s → Cells channel (bytes_of channel i ++ s)

  control : (a b n : ℕ) → a < 0x20 → ((s : List ℕ) → Cells channel s → Cells channel (twice_of channel a b ++ s)) → Goes (item a b n)
  control a b n h g s c = rw (bytes_of_control channel (item a b n) h) (g s c)

  characters : (a b n : ℕ) → 0x20 ≤ a → ((s : List ℕ) → Cells channel s → Cells channel (once_of a b ++ s)) → Goes (item a b n)
  characters a b n h g s c = rw (bytes_of_characters channel (item a b n) h) (g s c)

  tab_kind : (next after : ℕ) → Goes (item 0x17 (0x20 + gap_of next after) (gap_of next after))
  tab_kind next after =
      let P : ℕ → Type 0 = λ n. Goes (item 0x17 (0x20 + n) n) in
      let goes : (n : ℕ) → 1 ≤ n → n ≤ 3 → P n = λ n l h. control 0x17 (0x20 + n) n (omega arith) (λ s c. tab (0x20 + n) (omega arith) (omega arith) c) in
      pick_cases P (eqb next 0) (λ t. pick_cases P (eqb after 0) (λ u. goes 3 (omega arith) (omega arith)) (λ u. goes 2 (omega arith) (omega arith)))
      (λ t. goes 1 (omega arith) (omega arith))

  item_kind : (k : ℕ) → k < last → Goes (item_at memory at last k)
  unfolding next_item_of
  item_kind k h =
      let code = code_at memory at k in
      let next = code_before memory at last (k + 1) in
      let after = code_before memory at last (k + 2) in
      subst (λ (x : ℕ). Goes (next_item_of x next after)) (sym (before_here memory at last k h))
      (pick_cases Goes (eqb code 0) (λ t. tab_kind next after)
      (λ t.
      code_kinds code {G = Goes (pick (leb 0x90 code) (item 0x11 (code - 0x60) 1) (pick (is_plain next) (item code next 2) (item code 0 1)))}
      (f.code k (omega arith)) (eqb-false code 0 t) (f.other k (omega arith))
      (λ low high. rw (lt-leb 0x90 code (omega arith))
      (pick_cases Goes (is_plain next)
      (λ u. characters code next 2 low (λ s c. two code next (low, high) (leb-true 0x20 next (and_left (leb 0x20 next) (leb next 0x7f) u), leb-true next 0x7f (and_right (leb 0x20 next) (leb next 0x7f) u)) c))
      (λ u. characters code 0 1 low (λ s c. one code (low, high) c))))
      (λ low high. rw (le-leb 0x90 code low) (control 0x11 (code - 0x60) 1 (omega arith) (λ s c. special (code - 0x60) (omega arith) (omega arith) c)))))

  items_kinds : (k most : ℕ) → Cells channel (items_of channel memory at last k most)
  items_kinds k zero = end
  items_kinds k (suc most) = pick_cases (Cells channel) (ltb k last) (λ t. item_kind k (ltb-true k last t) _ (items_kinds (k + (item_at memory at last k).columns) most)) (λ t. end)

-- The rows, and the whole.

module _ (channel : ℕ) (memory : List ℕ) (valid : are_cells memory ≡ true) (writable : is_writable memory ≡ true) where
  rows_kinds : (n : ℕ) → n ≤ 15 → Rows channel (rows_tape_of channel memory n)
  unfolding rows_tape_of row_tape_of filled_row_of rest_of preamble_item_of
  rows_kinds zero h = top
  rows_kinds (suc n) h =
      let at = n * 64 in
      let above = rows_tape_of channel memory n in
      let rows = rows_kinds n (omega arith) in
      let f = fine memory n (omega arith) valid writable in
      let end = end_of memory at 32 in
      let lead = lead_of memory at 32 in
      let pen = row_pen_of memory at in
      let wide = (end_of_last memory at 32).high in
      pick_cases (λ (s : List ℕ). Rows channel (above ++ s)) (eqb end 0) (λ t. rw (append-nil above) rows)
      (λ t.
      let early = lead_before_end memory at (eqb-false end 0 t) in
      let a = addressed n pen lead (omega arith) (omega arith) f.ink f.steady in
      let first = a.first_high in
      let second = a.second_high in
      let i = preamble_item_of n pen lead in
      rw (bytes_of_control channel i (omega arith))
      (row rows i.first i.second (a.first_low, first, a.second_low, omega arith, ap is_unassigned a.says) (items_kinds channel memory at pen end f wide i.columns (end - i.columns))))

  pub tape_kinds : Made channel (tape_of memory channel)
  unfolding tape_of loading_of
  tape_kinds =
      let rows = rows_tape_of channel memory 15 in
      let rcl = bytes_of_control channel rcl_item (omega arith) in
      let enm = bytes_of_control channel enm_item (omega arith) in
      let eoc = bytes_of_control channel eoc_item (omega arith) in
      let parts : tape_of memory channel ≡ ((twice_of channel 0x14 0x20 ++ twice_of channel 0x14 0x2e) ++ rows) ++ twice_of channel 0x14 0x2f = λ i. ((rcl i ++ enm i) ++ rows) ++ eoc i in
      subst (Made channel) (sym parts) (made (rows_kinds 15 (omega arith)))

-- What holds of every kind of pairs, and of what stands one behind the other, holds of a tape.
module _ (channel : ℕ) (P : List ℕ → Type 0) (none : P []) (join : (s t : List ℕ) → P s → P t → P (s ++ t)) (twice : (a b : ℕ) → 0x10 ≤ a → a ≤ 0x17 → P (twice_of channel a b))
    (once : (a b : ℕ) → Printing a → P (once_of a b))
  where
    cells_have : {s : List ℕ} → Cells channel s → P s
    cells_have end = none
    cells_have (tab b l h c) = join (twice_of channel 0x17 b) _ (twice 0x17 b (omega arith) (omega arith)) (cells_have c)
    cells_have (special b l h c) = join (twice_of channel 0x11 b) _ (twice 0x11 b (omega arith) (omega arith)) (cells_have c)
    cells_have (one a p c) = join (once_of a 0) _ (once a 0 p) (cells_have c)
    cells_have (two a b p q c) = join (once_of a b) _ (once a b p) (cells_have c)

    rows_have : {s : List ℕ} → Rows channel s → P s
    rows_have top = none
    rows_have (row r a b p c) = join _ _ (rows_have r) (join (twice_of channel a b) _ (twice a b p.0 p.1) (cells_have c))

    pub made_has : {s : List ℕ} → Made channel s → P s
    made_has (made r) =
        let control : (b : ℕ) → P (twice_of channel 0x14 b) = λ b. twice 0x14 b (omega arith) (omega arith) in
        join _ (twice_of channel 0x14 0x2f) (join _ _ (join (twice_of channel 0x14 0x20) (twice_of channel 0x14 0x2e) (control 0x20) (control 0x2e)) (rows_have r)) (control 0x2f)

good_join : (s t : List ℕ) → AllGood s → AllGood t → AllGood (s ++ t)
good_join [] t p q = q
good_join (x ∷ s) t p q = (p.0, good_join s t p.1 q)

no_null_join : (s t : List ℕ) → NoNull s → NoNull t → NoNull (s ++ t)
no_null_join [] t p q = q
no_null_join (x ∷ []) t p q = absurd p
no_null_join (x ∷ y ∷ s) t p q = (p.0, no_null_join s t p.1 q)

-- a value from 1 up is sent as no null
sent_no_null : (v : ℕ) → 1 ≤ v → v < 128 → low_seven (sent_of v) ≡ 0 → ⊥
sent_no_null v low high e = omega (arith, low_seven-sent_of v high)

module _ (channel : ℕ) (memory : List ℕ) (valid : are_cells memory ≡ true) (writable : is_writable memory ≡ true) where
  pub tape_good : AllGood (tape_of memory channel)
  tape_good =
      let good = is_good-sent_of in
      made_has channel AllGood tt good_join (λ a b l h. (good _, (good _, (good _, (good _, tt))))) (λ a b p. (good _, (good _, tt))) (tape_kinds channel memory valid writable)

  pub tape_no_null : channel ≤ 2 → NoNull (tape_of memory channel)
  tape_no_null high =
      made_has channel NoNull tt no_null_join
      (λ a b l h. let some = sent_no_null (a + (channel - 1) * 8) (omega arith) (omega arith) in (some, (some, tt)))
      (λ a b p. (sent_no_null a (omega (arith, p.0)) (omega (arith, p.1)), tt)) (tape_kinds channel memory valid writable)
