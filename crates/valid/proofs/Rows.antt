-- The test that the code makes, row by row and outside the window, is the test of the definition. Assumes nothing.
use mathlib.Core.Path.{◌≡◌, refl, ap, sym, ◌∙◌}
use mathlib.Core.Bool.{Bool, true, false, ◌&&◌}
use mathlib.Core.List.{List, [], ◌∷◌}
use Prim.Native.Nat.{ℕ, ◌+◌, ◌-◌, ◌*◌, ◌/◌, ◌%◌, ◌<◌, ◌≤◌}
use native.Mathlib.Omega.{arith}
use lib.Dec.{eqb}
use lib.ListN.{length, get_or}
use borrow.Author.Tests.{eqb-true, eq-eqb, ne_eqb}
use Rattle.facts.specs.Every.{blank_of}
use Rattle.facts.proofs.Choice.{below_cases, and_left, and_right, and_both, implies_at, implies_of, same_test}
use Rattle.facts.proofs.Every.{every_at, every_of, blank_at, blank_of_lem}
use Rattle.cell.proofs.Laws.{empty_is_cell, is_cell_empty}
use Rattle.page.proofs.LawsOfCounts.{filled_from-blank}
use Rattle.window.specs.Window.{above_of}
use Rattle.state.specs.declared.Mode.{Mode}
use Rattle.state.specs.declared.State.{State}
use Rattle.record.specs.Layout.{state_of, are_counted, Counted, code_at}
use Rattle.record.proofs.LawsOfCounts.{are_counted_at, are_counted_of}
use Rattle.valid.specs.Valid.{is_valid_state, is_cell_at, is_windowed, is_valid}
use Rattle.valid.specs.Check.{is_row, is_counted, are_rows, is_framed, check_of}
use Rattle.valid.proofs.Clauses.{Clauses, is_valid_clauses, clauses_is_valid, all_at, is_valid_state_ranged, windowed_facts, windowed_of}

module _ (bs : List ℕ) where
  blank_byte : (at n i : ℕ) → blank_of bs at n ≡ true → at ≤ i → i < at + n → get_or bs i 0 ≡ 0
  blank_byte at n i e low high =
      let f : i ≡ at + (i - at) = omega arith in
      ap (λ (k : ℕ). get_or bs k 0) f ∙ blank_at bs at n e (i - at) (omega arith)

  -- an empty row is 32 cells that are allowed
  pub blank-is_row : (at : ℕ) → blank_of bs at 64 ≡ true → is_row bs at ≡ true
  unfolding is_row
  blank-is_row at e =
      every_of (is_cell_at bs at) 32
      (λ j h. rw (blank_byte at 64 (at + j * 2) e (omega arith) (omega arith), blank_byte at 64 (at + j * 2 + 1) e (omega arith) (omega arith)) empty_is_cell)

  -- and none of them is filled
  pub blank-is_counted : (at count : ℕ) → blank_of bs at 64 ≡ true → eqb count 0 ≡ is_counted bs at count
  unfolding is_counted
  blank-is_counted at count e = λ i. sym (blank-is_row at e) i && eqb count (sym (filled_from-blank bs at 32 e) i)

  -- Thirty rows of 32 cells are 960 cells, and the counts of the rows are those of the record.

  rows_at : are_rows bs ≡ true → (r : ℕ) → r < 30 → (is_row bs (64 + r * 64) ≡ true) × Counted bs r
  unfolding are_rows is_counted
  rows_at e r h =
      let t = every_at (λ (n : ℕ). is_counted bs (64 + n * 64) (get_or bs (19 + n) 0)) 30 e r h in
      (and_left _ _ t, eqb-true _ _ (and_right (is_row bs (64 + r * 64)) _ t))

  rows_cells : are_rows bs ≡ true → (k : ℕ) → k < 960 → is_cell_at bs 64 k ≡ true
  unfolding is_row
  rows_cells e k h =
      let f : 64 + k / 32 * 64 + k % 32 * 2 ≡ 64 + k * 2 = omega arith in
      rw f at (every_at (is_cell_at bs (64 + k / 32 * 64)) 32 (rows_at e (k / 32) (omega arith)).0 (k % 32) (omega arith))

  cells_row : ((k : ℕ) → k < 960 → is_cell_at bs 64 k ≡ true) → (r : ℕ) → r < 30 → is_row bs (64 + r * 64) ≡ true
  unfolding is_row
  cells_row e r l =
      every_of (is_cell_at bs (64 + r * 64)) 32
      (λ j h.
      let f : 64 + (r * 32 + j) * 2 ≡ 64 + r * 64 + j * 2 = omega arith in
      rw f at (e (r * 32 + j) (omega arith)))

  cells_rows : length bs ≡ 1984 → ((k : ℕ) → k < 960 → is_cell_at bs 64 k ≡ true) → are_counted bs ≡ true → are_rows bs ≡ true
  unfolding are_rows is_counted
  cells_rows size e counts =
      every_of (λ (r : ℕ). is_counted bs (64 + r * 64) (get_or bs (19 + r) 0)) 30
      (λ r l. and_both (cells_row e r l) (eq-eqb _ _ (are_counted_at bs size counts r l)))

  -- both bytes of an allowed cell with code 0 are 0
  empty_byte : (i : ℕ) → 64 ≤ i → is_cell_at bs 64 ((i - 64) / 2) ≡ true → code_at bs 64 ((i - 64) / 2) ≡ 0 → get_or bs i 0 ≡ 0
  empty_byte i from e z =
      below_cases (i % 2) 1
      (λ t. let f : i ≡ 64 + (i - 64) / 2 * 2 = omega arith in ap (λ (k : ℕ). get_or bs k 0) f ∙ z)
      (λ t. let f : i ≡ 64 + (i - 64) / 2 * 2 + 1 = omega arith in ap (λ (k : ℕ). get_or bs k 0) f ∙ is_cell_empty _ (rw z at e))

  -- m allowed cells from cell a on with code 0 are bytes that are 0
  blank_cells : (at n a m : ℕ) → at ≡ 64 + a * 2 → n ≡ m * 2 → ((k : ℕ) → a ≤ k → k < a + m → (is_cell_at bs 64 k ≡ true) × (code_at bs 64 k ≡ 0))
      → blank_of bs at n ≡ true
  blank_cells at n a m e f empty =
      blank_of_lem bs at n
      (λ i l.
      let cell = empty ((at + i - 64) / 2) (omega arith) (omega arith) in
      empty_byte (at + i) (omega arith) cell.0 cell.1)

  module _ (m : Mode) (high : m.roll.row.0 ≤ 15) where
    abbrev row : ℕ
    row = m.roll.row.0

    abbrev above : ℕ
    above = above_of m.roll.row m.depth

    framed_window : is_framed bs m.mark m.roll.row m.depth ≡ true → m.mark ≡ 1 → (k : ℕ) → k < 480 → is_windowed m bs k ≡ true
    unfolding is_framed
    framed_window e set k h =
        let both = implies_at _ _ e (eq-eqb m.mark 1 set) in
        windowed_of m.roll.row m.depth k (code_at bs 64 k)
        (λ t. blank_byte 64 (above * 64) (64 + k * 2) (and_left _ _ both) (omega arith) (omega arith))
        (λ t. blank_byte (64 + row * 64) ((15 - row) * 64) (64 + k * 2) (and_right (blank_of bs 64 (above * 64)) _ both) (omega arith) (omega arith))

    window_framed : ((k : ℕ) → k < 960 → is_cell_at bs 64 k ≡ true) → (m.mark ≡ 1 → (k : ℕ) → k < 480 → is_windowed m bs k ≡ true)
        → is_framed bs m.mark m.roll.row m.depth ≡ true
    unfolding is_framed
    window_framed cells window =
        implies_of (eqb m.mark 1)
        (λ t.
        let inside = window (eqb-true m.mark 1 t) in
        and_both
        (blank_cells 64 (above * 64) 0 (above * 32) refl (omega arith)
        (λ k l u. (cells k (omega arith), (windowed_facts m.roll.row m.depth k (code_at bs 64 k) (inside k (omega arith))).0 (omega arith))))
        (blank_cells (64 + row * 64) ((15 - row) * 64) (row * 32) ((15 - row) * 32) (omega arith) (omega arith)
        (λ k l u. (cells k (omega arith), (windowed_facts m.roll.row m.depth k (code_at bs 64 k) (inside k (omega arith))).1 l))))

  -- no other length is allowed
  pub is_valid_other : (length bs ≡ 1984 → ⊥) → false ≡ is_valid bs
  is_valid_other other =
      same_test false (is_valid bs) (λ e. cc) (λ e. sym (ne_eqb (length bs) 1984 other) ∙ eq-eqb (length bs) 1984 (is_valid_clauses bs e).size)

  module _ (size : length bs ≡ 1984) where
    check_clauses : check_of bs ≡ true → Clauses bs
    unfolding check_of
    check_clauses e =
        let m = (state_of bs).mode in
        let part = all_at (is_valid_state (state_of bs)) (blank_of bs 49 15 ∷ are_rows bs ∷ is_framed bs m.mark m.roll.row m.depth ∷ []) e in
        record {
          size = size;
          state = part 0;
          counts = are_counted_of bs size (λ r l. (rows_at (part 2) r l).1);
          zeros = part 1;
          cells = rows_cells (part 2);
          window = framed_window m (is_valid_state_ranged (state_of bs) (part 0)).roll.place.row_high (part 3);
        }

    clauses_check : Clauses bs → check_of bs ≡ true
    unfolding check_of
    clauses_check c =
        let high = (is_valid_state_ranged (state_of bs) c.state).roll.place.row_high in
        λ i. c.state i && c.zeros i && cells_rows size c.cells c.counts i && window_framed (state_of bs).mode high c.cells c.window i

    pub check_of-is_valid : check_of bs ≡ is_valid bs
    check_of-is_valid = same_test (check_of bs) (is_valid bs) (λ e. clauses_is_valid bs (check_clauses e)) (λ e. clauses_check (is_valid_clauses bs e))

    -- the answers of the parts joined, with the state as it was read
    pub check_joined : {s : State} {ok zeros rows framed : Bool} → s ≡ state_of bs → ok ≡ is_valid_state s → zeros ≡ blank_of bs 49 15 → rows ≡ are_rows bs
        → framed ≡ is_framed bs s.mode.mark s.mode.roll.row s.mode.depth → (ok && zeros && rows && framed) ≡ is_valid bs
    unfolding check_of
    check_joined e a b c d =
        (λ i. a i && b i && c i && d i)
        ∙ ap (λ (s : State). is_valid_state s && blank_of bs 49 15 && are_rows bs && is_framed bs s.mode.mark s.mode.roll.row s.mode.depth) e
        ∙ check_of-is_valid
