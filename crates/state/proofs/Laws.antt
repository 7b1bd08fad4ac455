-- The laws of modes: the style's cursor set and taken, which changes keep a mode in its ranges, and which cell a cursor points at. Assumes nothing.
use mathlib.Core.Path.{◌≡◌, refl, ap, sym, subst}
use mathlib.Core.Bool.{Bool, true, false}
use mathlib.Core.List.{List}
use Prim.Native.Nat.{ℕ, ◌+◌, ◌-◌, ◌*◌, ◌<◌, ◌≤◌}
use native.Mathlib.Omega.{arith}
use lib.Dec.{eqb, leb}
use lib.ListN.{replicate}
use borrow.Author.Tests.{leb-true, eqb-true, eqb-false, eq-eqb}
use Rattle.facts.specs.Choice.{pick}
use Rattle.facts.proofs.Choice.{pick_cases, and_left}
use Rattle.cell.specs.declared.Row.{Row}
use Rattle.cell.specs.declared.Cursor.{Cursor}
use Rattle.cell.specs.Place.{cell_at, column_number}
use Rattle.cell.specs.Pen.{is_pen}
use Rattle.cell.specs.Cursor.{Placed, cursor}
use Rattle.window.specs.Window.{above_of}
use Rattle.page.specs.Cells.{Each}
use Rattle.window.specs.Cells.{Kept}
use Rattle.page.proofs.Each.{none_each}
use Rattle.window.proofs.LawsOfCells.{kept_empty}
use Rattle.state.specs.declared.Mode.{Mode}
use Rattle.state.specs.State.{captions, fresh_cursor, fresh_mode, Fits}
use Rattle.state.specs.Style.{is_ready, cursor_of, cursors, styled, with_cursor, memory_of}
use Rattle.state.specs.Ranges.{Styled, Ranged, Sound}

-- Cursors.

-- column 1 with a plain pen, in any row
pub plain_placed : (row : Row) → 1 ≤ row.0 → row.0 ≤ 15 → Placed (cursor row (column_number 1) 0)
unfolding is_pen
plain_placed row low high = record { place = record { row_low = low; row_high = high; column_low = omega arith; column_high = omega arith }; pen = refl }

pub cursor_of_placed : (m : Mode) → Ranged m → Placed (cursor_of m)
unfolding cursor_of
cursor_of_placed m r =
    pick_cases Placed (eqb m.style 1) (λ t. r.roll) (λ t. pick_cases Placed (eqb m.style 2) (λ u. r.pop) (λ u. r.paint))

-- The style's cursor set and taken again: what was set last stands, and the rest of the mode stays.

module _ (m : Mode) where
  -- the style's own cursor changes nothing
  pub with_cursor_own : with_cursor m (cursor_of m) ≡ m
  unfolding cursor_of with_cursor
  with_cursor_own =
      let own = cursor_of m in
      let other : (a b : ℕ) → m.style ≡ a → eqb m.style b ≡ eqb a b = λ a b e. ap (λ (n : ℕ). eqb n b) e in
      let roll : pick (eqb m.style 1) own m.roll ≡ m.roll = pick_cases (λ (x : Cursor). x ≡ m.roll) (eqb m.style 1) (λ t. rw t) (λ t. refl) in
      let pop : pick (eqb m.style 2) own m.pop ≡ m.pop =
      pick_cases (λ (x : Cursor). x ≡ m.pop) (eqb m.style 2) (λ t. simp (t, other 2 1 (eqb-true m.style 2 t))) (λ t. refl) in
      let paint : pick (eqb m.style 3) own m.paint ≡ m.paint =
      pick_cases (λ (x : Cursor). x ≡ m.paint) (eqb m.style 3)
      (λ t. let e = eqb-true m.style 3 t in simp (other 3 1 e, other 3 2 e)) (λ t. refl) in
      λ i. cursors m (roll i) (pop i) (paint i)

  pub with_cursor_twice : (b c : Cursor) → with_cursor (with_cursor m b) c ≡ with_cursor m c
  unfolding with_cursor
  with_cursor_twice b c = λ i. cursors m (again (eqb m.style 1) m.roll i) (again (eqb m.style 2) m.pop i) (again (eqb m.style 3) m.paint i)
    where
      again : (t : Bool) (x : Cursor) → pick t c (pick t b x) ≡ pick t c x
      again true x = refl
      again false x = refl

  pub cursor_of-with_cursor : (c : Cursor) → 1 ≤ m.style → m.style ≤ 3 → cursor_of (with_cursor m c) ≡ c
  unfolding cursor_of with_cursor
  cursor_of-with_cursor c low high =
      go (eqb m.style 1) (eqb m.style 2) (eqb m.style 3)
      (λ t u.
      let roll = eqb-false m.style 1 t in
      let pop = eqb-false m.style 2 u in
      eq-eqb m.style 3 (omega arith))
    where
      go : (r p q : Bool) → (r ≡ false → p ≡ false → q ≡ true) → pick r (pick r c m.roll) (pick p (pick p c m.pop) (pick q c m.paint)) ≡ c
      go true p q h = refl
      go false true q h = refl
      go false false q h = ap (λ (t : Bool). pick t c m.paint) (h refl refl)

  pub memory_of-with_cursor : (c : Cursor) → memory_of (with_cursor m c) ≡ memory_of m
  unfolding memory_of with_cursor
  memory_of-with_cursor c = refl

  pub is_ready-with_cursor : (c : Cursor) → is_ready (with_cursor m c) ≡ is_ready m
  unfolding is_ready with_cursor
  is_ready-with_cursor c = refl

-- Modes: the parts that a change does not touch are passed on.

module _ (m : Mode) (r : Ranged m) where
  pub roll_ranged : (c : Cursor) → Placed c → Ranged (cursors m c m.pop m.paint)
  roll_ranged c p = record { style = r.style; roll = p; pop = r.pop; paint = r.paint }

  pub with_cursor_ranged : (c : Cursor) → Placed c → Ranged (with_cursor m c)
  unfolding with_cursor
  with_cursor_ranged c p = record {
    style = r.style;
    roll = pick_cases Placed (eqb m.style 1) (λ t. p) (λ t. r.roll);
    pop = pick_cases Placed (eqb m.style 2) (λ t. p) (λ t. r.pop);
    paint = pick_cases Placed (eqb m.style 3) (λ t. p) (λ t. r.paint);
  }

  pub styled_ranged : (style text mark depth : ℕ) → Styled style text mark depth → Ranged (styled m style text mark depth)
  styled_ranged style text mark depth s = record { style = s; roll = r.roll; pop = r.pop; paint = r.paint }

-- another style with Text off, the mark kept
pub restyled : {style text mark depth : ℕ} (next : ℕ) → Styled style text mark depth → next ≤ 3 → (next ≡ 1 → mark ≡ 1) → (next ≡ 3 → mark ≡ 0)
    → Styled next 0 mark depth
restyled next s high rolls paints = record {
  style_high = high;
  text_high = omega arith;
  mark_high = s.mark_high;
  depth_high = s.depth_high;
  depth_two = s.depth_two;
  rolls = rolls;
  paints = paints;
  deep = s.deep;
}

-- Text started, all else kept
pub texted : {style text mark depth : ℕ} → Styled style text mark depth → Styled style 1 mark depth
texted s = record {
  style_high = s.style_high;
  text_high = omega arith;
  mark_high = s.mark_high;
  depth_high = s.depth_high;
  depth_two = s.depth_two;
  rolls = s.rolls;
  paints = s.paints;
  deep = s.deep;
}

-- another style with Text off and the mark cleared
pub unmarked : {style text mark depth : ℕ} (next : ℕ) → Styled style text mark depth → next ≤ 3 → (next ≡ 1 → ⊥) → Styled next 0 0 depth
unmarked next s high rolls = record {
  style_high = high;
  text_high = omega arith;
  mark_high = omega arith;
  depth_high = s.depth_high;
  depth_two = s.depth_two;
  rolls = λ e. absurd (rolls e);
  paints = λ e. refl;
  deep = λ e. omega arith;
}

-- A cursor in the row of the style's leaves the window where it is.

pub with_cursor_base : (m : Mode) (c : Cursor) → c.row ≡ (cursor_of m).row → (with_cursor m c).roll.row ≡ m.roll.row
unfolding cursor_of with_cursor
with_cursor_base m c e = pick_cases (λ (x : Cursor). x.row ≡ m.roll.row) (eqb m.style 1) (λ t. rw t at e) (λ t. refl)

pub with_cursor_kept : (m : Mode) (c : Cursor) (d : List ℕ) → c.row ≡ (cursor_of m).row → Each (Kept m.mark m.roll.row m.depth) d
    → Each (Kept (with_cursor m c).mark (with_cursor m c).roll.row (with_cursor m c).depth) d
unfolding with_cursor
with_cursor_kept m c d e h = subst (λ (row : Row). Each (Kept m.mark row m.depth) d) (sym (with_cursor_base m c e)) h

pub with_cursor_fits : (m : Mode) (c : Cursor) → c.row ≡ (cursor_of m).row → Fits m → Fits (with_cursor m c)
unfolding with_cursor
with_cursor_fits m c e h = subst (λ (row : Row). m.mark ≡ 1 → m.depth ≤ row.0) (sym (with_cursor_base m c e)) h

-- The cell of a cursor in the style's row: its number, and that the style may write there.
pub record Spot (m : Mode) (c : Cursor) : Type 0 where
  pub cell : ℕ
  pub even : cell_at (memory_of m) c.row c.column ≡ cell * 2
  pub inside : m.mark ≡ 1 → (above_of m.roll.row m.depth * 32 ≤ cell) × (cell < 480 → cell < m.roll.row.0 * 32)

-- pop-on writes in the other memory; paint-on has the mark clear; roll-up stands in the base row
pub spot : (m : Mode) (c : Cursor) → Ranged m → 1 ≤ m.style → Placed c → c.row ≡ (cursor_of m).row → Spot m c
unfolding memory_of cursor_of
spot m c r live p e = go (eqb m.style 2) refl
  where
    go : (t : Bool) → eqb m.style 2 ≡ t → Spot m c
    go true t = record {
      cell = 480 + (c.row.0 - 1) * 32 + (c.column.0 - 1);
      even = rw t (omega arith);
      inside = λ k. let high = r.roll.place.row_high in omega arith;
    }
    go false t = record {
      cell = (c.row.0 - 1) * 32 + (c.column.0 - 1);
      even = rw t (omega arith);
      inside = λ k.
          let pop : m.style ≡ 2 → ⊥ = eqb-false _ _ t in
          let paint : m.style ≡ 3 → ⊥ = λ q. let z = r.style.paints q in omega arith in
          let high = r.style.style_high in
          let roll : m.style ≡ 1 = omega arith in
          let row : c.row ≡ m.roll.row = rw (eq-eqb _ _ roll) at e in
          let number = ap (λ (x : Row). x.0) row in
          let deep = r.style.deep k in
          let low = p.place.row_low in
          let wide = p.place.column_high in
          omega arith;
    }

-- a style is set
pub is_ready_live : (m : Mode) → is_ready m ≡ true → 1 ≤ m.style
unfolding is_ready
is_ready_live m e = leb-true 1 m.style (and_left (leb 1 m.style) (eqb m.text 0) e)

-- The fresh captions are sound.
pub fresh_sound : Sound (captions fresh_mode (replicate 1920 0))
fresh_sound =
    let c : Placed fresh_cursor = plain_placed fresh_cursor.row (omega arith) (omega arith) in
    record { ranged = record { style = omega arith; roll = c; pop = c; paint = c }; fits = λ e. omega arith; cells = none_each kept_empty }
