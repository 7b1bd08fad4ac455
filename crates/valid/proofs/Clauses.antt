-- The test of a record taken apart into its clauses and put together from them, and what the clauses say as facts. Assumes nothing.
use mathlib.Core.Path.{◌≡◌, refl}
use mathlib.Core.Bool.{Bool, true, ◌&&◌, ◌||◌}
use mathlib.Core.List.{List, [], ◌∷◌}
use Prim.Native.Nat.{ℕ, zero, suc, ◌+◌, ◌*◌, ◌/◌, ◌<◌, ◌≤◌}
use native.Mathlib.Omega.{arith}
use lib.Dec.{eqb, leb, ltb}
use lib.ListN.{length, get_or}
use borrow.Author.Tests.{leb-true, ltb-true, eqb-true, le-leb, lt-ltb, eq-eqb}
use Rattle.facts.specs.Choice.{implies}
use Rattle.facts.specs.Every.{every, blank_of}
use Rattle.facts.proofs.Choice.{below_cases, and_left, and_right, and_both, or_cases, or_left, or_right, implies_at, implies_of}
use Rattle.facts.proofs.Every.{every_at, every_of}
use Rattle.cell.specs.declared.Row.{Row}
use Rattle.cell.specs.declared.Cursor.{Cursor}
use Rattle.cell.specs.Pen.{is_pen}
use Rattle.cell.specs.Cursor.{Placed}
use Rattle.codes.specs.Assigned.{is_expected}
use Rattle.window.specs.Window.{above_of}
use Rattle.state.specs.declared.State.{State}
use Rattle.state.specs.State.{Desk, Fits}
use Rattle.state.specs.Ranges.{Ranged}
use Rattle.decode.specs.Sound.{SoundDesk}
use Rattle.record.specs.Layout.{state_of, are_counted}
use Rattle.valid.proofs.LawsOfRanges.{within_low, within_high}
use Rattle.valid.specs.Valid.{is_within, is_cursor, is_valid_state, is_cell_at, is_in_window, is_windowed, is_valid}

-- A test of many clauses, joined from the left, and each clause by its number.

abbrev pub all_from : Bool → List Bool → Bool
all_from b [] = b
all_from b (x ∷ xs) = all_from (b && x) xs

all_first : (b : Bool) (xs : List Bool) → all_from b xs ≡ true → b ≡ true
all_first b [] e = e
all_first b (x ∷ xs) e = and_left b x (all_first (b && x) xs e)

pub all_at : (b : Bool) (xs : List Bool) → all_from b xs ≡ true → (k : ℕ) → get_or (b ∷ xs) k true ≡ true
all_at b xs e zero = all_first b xs e
all_at b [] e (suc k) = refl
all_at b (x ∷ xs) e (suc zero) = and_right b x (all_first (b && x) xs e)
all_at b (x ∷ xs) e (suc (suc k)) = all_at (b && x) xs e (suc k)

-- Cursors.

is_cursor_facts : (c : Cursor) → is_cursor c ≡ true → Placed c
unfolding is_cursor
is_cursor_facts c e =
    let part = all_at (is_within 1 15 c.row.0) (is_within 1 32 c.column.0 ∷ is_pen c.pen ∷ []) e in
    record {
      place = record {
        row_low = within_low 1 15 c.row.0 (part 0);
        row_high = within_high 1 15 c.row.0 (part 0);
        column_low = within_low 1 32 c.column.0 (part 1);
        column_high = within_high 1 32 c.column.0 (part 1);
      };
      pen = part 2;
    }

is_cursor_of : (c : Cursor) → Placed c → is_cursor c ≡ true
unfolding is_cursor
is_cursor_of c p =
    let at = p.place in
    λ i. (le-leb _ _ at.row_low i && le-leb _ _ at.row_high i) && (le-leb _ _ at.column_low i && le-leb _ _ at.column_high i) && p.pen i

-- The state.

abbrev clauses : State → List Bool
clauses s =
    is_within 1 2 s.selected ∷ leb s.stream 2 ∷ leb s.mode.style 3 ∷ leb s.mode.text 1 ∷ leb s.mode.mark 1
    ∷ (eqb s.mode.depth 0 || is_within 2 4 s.mode.depth) ∷ is_cursor s.mode.roll ∷ is_cursor s.mode.pop ∷ is_cursor s.mode.paint
    ∷ is_expected s.first s.second ∷ implies (eqb s.mode.mark 1) (is_within 2 4 s.mode.depth)
    ∷ implies (eqb s.mode.mark 1) (leb s.mode.depth s.mode.roll.row.0)
    ∷ implies (eqb s.mode.style 1) (eqb s.mode.mark 1) ∷ implies (eqb s.mode.style 3) (eqb s.mode.mark 0) ∷ []

module _ (s : State) (e : is_valid_state s ≡ true) where
  pub is_valid_state_clause : (k : ℕ) → get_or (leb s.acts 16000 ∷ clauses s) k true ≡ true
  unfolding is_valid_state
  is_valid_state_clause = all_at (leb s.acts 16000) (clauses s) e

  depth_cases : (s.mode.depth ≤ 4) × (1 ≤ s.mode.depth → 2 ≤ s.mode.depth)
  depth_cases =
      or_cases (eqb s.mode.depth 0) (is_valid_state_clause 6)
      (λ t. let none = eqb-true s.mode.depth 0 t in (omega arith, λ h. omega arith))
      (λ t. (within_high 2 4 s.mode.depth t, λ h. within_low 2 4 s.mode.depth t))

  pub is_valid_state_ranged : Ranged s.mode
  is_valid_state_ranged = record {
    style = record {
      style_high = leb-true s.mode.style 3 (is_valid_state_clause 3);
      text_high = leb-true s.mode.text 1 (is_valid_state_clause 4);
      mark_high = leb-true s.mode.mark 1 (is_valid_state_clause 5);
      depth_high = depth_cases.0;
      depth_two = depth_cases.1;
      rolls = λ h. eqb-true s.mode.mark 1 (implies_at _ _ (is_valid_state_clause 13) (eq-eqb s.mode.style 1 h));
      paints = λ h. eqb-true s.mode.mark 0 (implies_at _ _ (is_valid_state_clause 14) (eq-eqb s.mode.style 3 h));
      deep = λ h. within_low 2 4 s.mode.depth (implies_at _ _ (is_valid_state_clause 11) (eq-eqb s.mode.mark 1 h));
    };
    roll = is_cursor_facts s.mode.roll (is_valid_state_clause 7);
    pop = is_cursor_facts s.mode.pop (is_valid_state_clause 8);
    paint = is_cursor_facts s.mode.paint (is_valid_state_clause 9);
  }

  pub is_valid_state_fits : Fits s.mode
  is_valid_state_fits h = leb-true _ _ (implies_at _ _ (is_valid_state_clause 12) (eq-eqb s.mode.mark 1 h))

-- a depth of 0 or 2 to 4
depth_of : (depth : ℕ) → depth ≤ 4 → (1 ≤ depth → 2 ≤ depth) → (eqb depth 0 || is_within 2 4 depth) ≡ true
depth_of zero high two = refl
depth_of (suc n) high two = or_right (eqb (suc n) 0) (λ i. le-leb 2 (suc n) (two (omega arith)) i && le-leb (suc n) 4 high i)

pub is_valid_state_of : (d : Desk) → SoundDesk d → is_valid_state d.state ≡ true
unfolding is_valid_state
is_valid_state_of d h =
    let s = d.state in
    let m = s.mode in
    let r = h.captions.ranged in
    let t = r.style in
    λ i. le-leb s.acts 16000 h.acts i && (le-leb 1 s.selected h.selected_low i && le-leb s.selected 2 h.selected_high i)
    && le-leb s.stream 2 h.stream i && le-leb m.style 3 t.style_high i && le-leb m.text 1 t.text_high i && le-leb m.mark 1 t.mark_high i
    && depth_of m.depth t.depth_high t.depth_two i
    && is_cursor_of m.roll r.roll i && is_cursor_of m.pop r.pop i && is_cursor_of m.paint r.paint i
    && h.expected i
    && implies_of (eqb m.mark 1) (λ k. and_both (le-leb 2 m.depth (t.deep (eqb-true m.mark 1 k))) (le-leb m.depth 4 t.depth_high)) i
    && implies_of (eqb m.mark 1) (λ k. le-leb m.depth m.roll.row.0 (h.captions.fits (eqb-true m.mark 1 k))) i
    && implies_of (eqb m.style 1) (λ k. eq-eqb m.mark 1 (t.rolls (eqb-true m.style 1 k))) i
    && implies_of (eqb m.style 3) (λ k. eq-eqb m.mark 0 (t.paints (eqb-true m.style 3 k))) i

-- The window: a displayed cell that is not empty lies in it exactly where cells above it and below it are empty.

pub windowed_facts : (base : Row) (depth k code : ℕ) → (eqb code 0 || is_in_window base depth (k / 32 + 1)) ≡ true
    → (k < above_of base depth * 32 → code ≡ 0) × (base.0 * 32 ≤ k → code ≡ 0)
windowed_facts base depth k code e =
    or_cases (eqb code 0) e
    (λ t. (λ h. eqb-true code 0 t, λ h. eqb-true code 0 t))
    (λ t.
    let low = ltb-true (above_of base depth) (k / 32 + 1) (and_left _ _ t) in
    let high = leb-true (k / 32 + 1) base.0 (and_right (ltb (above_of base depth) (k / 32 + 1)) _ t) in
    (λ h. omega arith, λ h. omega arith))

pub windowed_of : (base : Row) (depth k code : ℕ) → (k < above_of base depth * 32 → code ≡ 0) → (base.0 * 32 ≤ k → code ≡ 0)
    → (eqb code 0 || is_in_window base depth (k / 32 + 1)) ≡ true
windowed_of base depth k code above below =
    let empty : code ≡ 0 → (eqb code 0 || is_in_window base depth (k / 32 + 1)) ≡ true = λ h. or_left _ (eq-eqb code 0 h) in
    below_cases k (above_of base depth * 32) (λ h. empty (above h))
    (λ l. below_cases k (base.0 * 32)
    (λ u. or_right (eqb code 0) (and_both (lt-ltb (above_of base depth) (k / 32 + 1) (omega arith)) (le-leb (k / 32 + 1) base.0 (omega arith))))
    (λ u. empty (below u)))

-- The whole record.

pub record Clauses (bs : List ℕ) : Type 0 where
  pub size : length bs ≡ 1984
  pub state : is_valid_state (state_of bs) ≡ true
  pub counts : are_counted bs ≡ true
  pub zeros : blank_of bs 49 15 ≡ true
  pub cells : (k : ℕ) → k < 960 → is_cell_at bs 64 k ≡ true
  pub window : (state_of bs).mode.mark ≡ 1 → (k : ℕ) → k < 480 → is_windowed (state_of bs).mode bs k ≡ true

pub is_valid_clauses : (bs : List ℕ) → is_valid bs ≡ true → Clauses bs
unfolding is_valid
is_valid_clauses bs e =
    let part = all_at (eqb (length bs) 1984)
    (is_valid_state (state_of bs) ∷ are_counted bs ∷ blank_of bs 49 15 ∷ every (is_cell_at bs 64) 960
    ∷ implies (eqb (state_of bs).mode.mark 1) (every (is_windowed (state_of bs).mode bs) 480) ∷ []) e in
    record {
      size = eqb-true (length bs) 1984 (part 0);
      state = part 1;
      counts = part 2;
      zeros = part 3;
      cells = every_at (is_cell_at bs 64) 960 (part 4);
      window = λ m. every_at (is_windowed (state_of bs).mode bs) 480 (implies_at _ _ (part 5) (eq-eqb (state_of bs).mode.mark 1 m));
    }

pub clauses_is_valid : (bs : List ℕ) → Clauses bs → is_valid bs ≡ true
unfolding is_valid
clauses_is_valid bs c =
    λ i. eq-eqb (length bs) 1984 c.size i && c.state i && c.counts i && c.zeros i && every_of (is_cell_at bs 64) 960 c.cells i
    && implies_of (eqb (state_of bs).mode.mark 1) (λ m. every_of (is_windowed (state_of bs).mode bs) 480 (c.window (eqb-true (state_of bs).mode.mark 1 m))) i
