-- What is written at the cursor keeps sound captions sound; two codes one after the other. Assumes nothing.
use mathlib.Core.Path.{◌≡◌, refl, ap, ◌∙◌}
use mathlib.Core.Bool.{true}
use Rattle.std.specs.Prelude.{Option, Some, None}
use mathlib.Core.List.{List}
use Prim.Native.Nat.{ℕ, ◌≤◌}
use native.Mathlib.Omega.{arith}
use lib.ListN.{length}
use Rattle.cell.specs.declared.Cursor.{Cursor}
use Rattle.cell.specs.Pen.{is_pen}
use Rattle.cell.specs.Code.{is_code}
use Rattle.cell.specs.Cursor.{with_pen, after_write_of, Placed}
use Rattle.cell.proofs.Laws.{is_cell_of_lem, is_pen-mid_row_pen_of, is_pen-flash_pen_of, with_pen_keeps_placed, after_write_of_keeps_placed}
use Rattle.page.specs.Page.{write_cell_of}
use Rattle.page.proofs.Laws.{length-write_cell_of}
use Rattle.page.proofs.Each.{write_cell_of_each}
use Rattle.window.proofs.LawsOfCells.{kept_in}
use Rattle.state.specs.declared.Mode.{Mode}
use Rattle.state.specs.State.{Captions, captions}
use Rattle.state.specs.Style.{is_ready, cursor_of, with_cursor, memory_of}
use Rattle.state.specs.Ranges.{Ranged, Sound}
use Rattle.state.proofs.Laws.{cursor_of_placed, with_cursor_ranged, with_cursor_fits, with_cursor_kept, spot, with_cursor_own, with_cursor_twice, cursor_of-with_cursor, memory_of-with_cursor, is_ready-with_cursor}
use Rattle.typing.specs.Typing.{write_of, write_any_of, passed_of, put_of, turned_of, attribute_of, mid_row_of, fon_of}

-- who holds mode and cells, and has set the style's cursor, has turned it
pub turned_of-set : (m : Mode) (d : List ℕ) (to : Cursor) {n : Mode} → n ≡ with_cursor m to → captions n d ≡ turned_of (captions m d) to
unfolding turned_of
turned_of-set m d to e = ap (λ (x : Mode). captions x d) e

module _ (d : Captions) (h : Sound d) where
  abbrev m : Mode
  m = d.mode

  abbrev r : Ranged m
  r = h.ranged

  abbrev c : Cursor
  c = cursor_of m

  placed : Placed (cursor_of d.mode)
  placed = cursor_of_placed m r

  pub turned_of_sound : (to : Cursor) → Placed to → to.row ≡ (cursor_of d.mode).row → Sound (turned_of d to)
  unfolding turned_of
  turned_of_sound to p e = record { ranged = with_cursor_ranged m r to p; fits = with_cursor_fits m to e h.fits; cells = with_cursor_kept m to d.cells e h.cells }

  pub write_of_sound : (code : ℕ) → is_code code ≡ true → 1 ≤ code → 1 ≤ d.mode.style → Sound (write_of d code)
  unfolding write_of after_write_of
  write_of_sound code e low live =
      let at = spot m c r live placed refl in
      record {
        ranged = with_cursor_ranged m r (after_write_of c) (after_write_of_keeps_placed c placed);
        fits = with_cursor_fits m (after_write_of c) refl h.fits;
        cells = with_cursor_kept m (after_write_of c) _ refl
            (write_cell_of_each (memory_of m) c.row c.column at.cell at.even code c.pen
            (kept_in (is_cell_of_lem code c.pen e low placed.pen) at.inside) h.cells);
      }

-- the style's cursor with another pen
pub with_pen_of_sound : (d : Captions) → Sound d → (pen : ℕ) → is_pen pen ≡ true → Sound (captions (with_cursor d.mode (with_pen (cursor_of d.mode) pen)) d.cells)
unfolding turned_of
with_pen_of_sound d h pen p =
    let at = cursor_of d.mode in
    turned_of_sound d h (with_pen at pen) (with_pen_keeps_placed at (placed d h) pen p) refl

pub attribute_of_sound : (d : Captions) (pen : ℕ) → is_pen pen ≡ true → 1 ≤ d.mode.style → Sound d → Sound (attribute_of d pen)
unfolding attribute_of turned_of with_cursor is_code
attribute_of_sound d pen p live h =
    write_of_sound (turned_of d (with_pen (cursor_of d.mode) pen)) (with_pen_of_sound d h pen p) 0x80 refl (omega arith) live

module _ (d : Captions) (h : Sound d) (live : 1 ≤ d.mode.style) where
  pub mid_row_of_sound : (b : ℕ) → 0x20 ≤ b → b ≤ 0x2f → Sound (mid_row_of d b)
  unfolding mid_row_of
  mid_row_of_sound b low high = attribute_of_sound d _ (is_pen-mid_row_pen_of _ b (placed d h).pen low high) live h

  pub fon_of_sound : Sound (fon_of d)
  unfolding fon_of
  fon_of_sound = attribute_of_sound d _ (is_pen-flash_pen_of _ (placed d h).pen) live h

-- Two codes one after the other.

-- what is written leaves style and Text alone
pub is_ready-write_any_of : (d : Captions) (code : Option ℕ) → is_ready (write_any_of d code).mode ≡ is_ready d.mode
unfolding write_of
is_ready-write_any_of d None = refl
is_ready-write_any_of d (Some code) = is_ready-with_cursor d.mode (after_write_of (cursor_of d.mode))

-- the cursor that a code leaves, and the length of the cells
pub passed_of_keeps_placed : (c : Cursor) (code : Option ℕ) → Placed c → Placed (passed_of c code)
passed_of_keeps_placed c None h = h
passed_of_keeps_placed c (Some code) h = after_write_of_keeps_placed c h

pub length_put_of : (d : List ℕ) (memory : ℕ) (c : Cursor) (code : Option ℕ) → length (put_of d memory c code) ≡ length d
length_put_of d memory c None = refl
length_put_of d memory c (Some code) = length-write_cell_of d memory c.row c.column code c.pen

-- with a style set, a code is written at the cursor that was set last
pub write_any_of_at : (m : Mode) (d : List ℕ) (c : Cursor) (code : Option ℕ) → 1 ≤ m.style → m.style ≤ 3
    → write_any_of (captions (with_cursor m c) d) code ≡ captions (with_cursor m (passed_of c code)) (put_of d (memory_of m) c code)
unfolding write_of
write_any_of_at m d c None low high = refl
write_any_of_at m d c (Some code) low high =
    let e = cursor_of-with_cursor m c low high in
    let k = memory_of-with_cursor m c in
    (λ i. captions (with_cursor (with_cursor m c) (after_write_of (e i))) (write_cell_of d (k i) (e i).row (e i).column code (e i).pen))
    ∙ ap (λ (n : Mode). captions n (write_cell_of d (memory_of m) c.row c.column code c.pen)) (with_cursor_twice m c (after_write_of c))

-- the style's cursor and memory taken once, and the cursor behind both codes set once
pub write_any_of_both : (m : Mode) (d : List ℕ) (first second : Option ℕ) → 1 ≤ m.style → m.style ≤ 3
    → {memory : ℕ} {at between behind : Cursor} {one two : List ℕ} {n : Mode} → memory ≡ memory_of m → at ≡ cursor_of m
    → (between ≡ passed_of at first) × (one ≡ put_of d memory at first) → (behind ≡ passed_of between second) × (two ≡ put_of one memory between second)
    → n ≡ with_cursor m behind → captions n two ≡ write_any_of (write_any_of (captions m d) first) second
write_any_of_both m d first second low high e c p q w =
    let k = memory_of m in
    let at = cursor_of m in
    let start = ap (λ (x : Mode). write_any_of (write_any_of (captions x d) first) second) (with_cursor_own m) in
    let one = ap (λ (x : Captions). write_any_of x second) (write_any_of_at m d at first low high) in
    let two = write_any_of_at m (put_of d k at first) (passed_of at first) second low high in
    cc
