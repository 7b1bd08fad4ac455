-- How far the non-displayed memory is loaded, and what writing, tabs and preambles in pop-on do to that. Assumes nothing.
use mathlib.Core.Path.{◌≡◌, refl, sym, ap, ◌∙◌}
use mathlib.Core.Logic.{◌⊎◌, inl, inr}
use mathlib.Core.Bool.{true, false, ◌&&◌}
use mathlib.Core.List.{List, [], ◌∷◌}
use Prim.Native.Nat.{ℕ, ◌+◌, ◌*◌, ◌<◌, ◌≤◌, min}
use native.Mathlib.Omega.{arith}
use lib.Dec.{eqb, leb}
use lib.ListN.{length, get_or, take}
use Rattle.facts.specs.Choice.{pick}
use Rattle.facts.proofs.Choice.{below_cases}
use Rattle.facts.proofs.Over.{take-over}
use Rattle.cell.specs.declared.Row.{Row}
use Rattle.cell.specs.declared.Column.{Column}
use Rattle.cell.specs.declared.Cursor.{Cursor}
use Rattle.cell.specs.Place.{row_number, column_number, cell_at}
use Rattle.cell.specs.Cursor.{cursor, after_write_of, tab_of}
use Rattle.codes.specs.declared.Code.TheVariants.{Special, Tab, Preamble}
use Rattle.page.specs.Page.{write_cell_of}
use Rattle.page.proofs.Laws.{length-write_cell_of, write_cell_of_outside, write_cell_of_code, write_cell_of-pen}
use Rattle.state.specs.declared.Mode.{Mode}
use Rattle.state.specs.State.{Captions, captions}
use Rattle.state.specs.Style.{is_ready, cursor_of, with_cursor, memory_of}
use Rattle.typing.specs.Typing.{write_of, turned_of}
use Rattle.placing.specs.Placing.{tabbed_of, preamble_of}
use Rattle.acts.specs.Act.{gated, act_of}
use Rattle.decode.specs.Play.{displayed_of}

-- pop-on with Text off; the non-displayed memory has the bytes of `memory` up to byte n, and is empty behind
pub record Loaded (memory : List ℕ) (n : ℕ) (c : Captions) : Type 0 where
  pub style : c.mode.style ≡ 2
  pub text : c.mode.text ≡ 0
  pub size : 1920 ≤ length c.cells
  pub front : (i : ℕ) → i < n → get_or c.cells (960 + i) 0 ≡ get_or memory i 0
  pub rest : (i : ℕ) → n ≤ i → i < 960 → get_or c.cells (960 + i) 0 ≡ 0

-- where the memory is empty, no more is to be done
pub skip : (memory : List ℕ) (n m : ℕ) (c : Captions) → n ≤ m → m ≤ 960 → ((i : ℕ) → n ≤ i → i < m → get_or memory i 0 ≡ 0) → Loaded memory n c → Loaded memory m c
skip memory n m c low high none h = record {
  style = h.style;
  text = h.text;
  size = h.size;
  front = λ i l. below_cases i n (h.front i) (λ g. h.rest i g (omega arith) ∙ sym (none i g l));
  rest = λ i g l. h.rest i (omega arith) l;
}

-- pop-on's own cursor and memory
module _ (m : Mode) (e : m.style ≡ 2) where
  cursor_of_pop : cursor_of m ≡ m.pop
  unfolding cursor_of
  cursor_of_pop = ap (λ (s : ℕ). pick (eqb s 1) m.roll (pick (eqb s 2) m.pop m.paint)) e

  memory_of_pop : memory_of m ≡ 960
  unfolding memory_of
  memory_of_pop = ap (λ (s : ℕ). pick (eqb s 2) 960 0) e

  with_cursor_pop : (q : Cursor) → (with_cursor m q).pop ≡ q
  unfolding with_cursor
  with_cursor_pop q = ap (λ (s : ℕ). pick (eqb s 2) q m.pop) e

  pub ready : m.text ≡ 0 → is_ready m ≡ true
  unfolding is_ready
  ready t = λ i. leb 1 (e i) && eqb (t i) 0

-- a code written at the cursor of pop-on
write_of_pop : (c : Captions) (code : ℕ) → c.mode.style ≡ 2
    → write_of c code ≡ captions (with_cursor c.mode (after_write_of c.mode.pop)) (write_cell_of c.cells 960 c.mode.pop.row c.mode.pop.column code c.mode.pop.pen)
unfolding write_of
write_of_pop c code e =
    let p = cursor_of_pop c.mode e in
    λ i. captions (with_cursor c.mode (after_write_of (p i))) (write_cell_of c.cells (memory_of_pop c.mode e i) (p i).row (p i).column code (p i).pen)

-- Pop-on works on the non-displayed memory: what is displayed stays.

write_of_style : (c : Captions) (code : ℕ) → (write_of c code).mode.style ≡ c.mode.style
unfolding write_of with_cursor
write_of_style c code = refl

module _ (c : Captions) (e : c.mode.style ≡ 2) where
  pub write_of_kept : (code : ℕ) → displayed_of (write_of c code).cells ≡ displayed_of c.cells
  unfolding displayed_of write_cell_of
  write_of_kept code =
      ap (λ (x : Captions). take 960 x.cells) (write_of_pop c code e)
      ∙ take-over c.cells (cell_at 960 c.mode.pop.row c.mode.pop.column) (code ∷ c.mode.pop.pen ∷ []) 960 (omega arith)

  module _ (t : c.mode.text ≡ 0) where
    pub special_kept : (code : ℕ) → displayed_of (act_of c (Special code)).cells ≡ displayed_of c.cells
    unfolding act_of gated
    special_kept code = rw (ready c.mode e t) (write_of_kept code)

    pub tab_kept : (j : ℕ) → displayed_of (act_of c (Tab j)).cells ≡ displayed_of c.cells
    unfolding act_of gated tabbed_of turned_of
    tab_kept j = rw (ready c.mode e t)

    pub preamble_kept : (r : Row) (q : Column) (pen : ℕ) → displayed_of (act_of c (Preamble r q pen)).cells ≡ displayed_of c.cells
    unfolding act_of gated preamble_of turned_of
    preamble_kept r q pen = let other : eqb c.mode.style 1 ≡ false = ap (λ (s : ℕ). eqb s 1) e in rw (ready c.mode e t, other)

pub both_kept : (c : Captions) (a b : ℕ) → c.mode.style ≡ 2 → displayed_of (write_of (write_of c a) b).cells ≡ displayed_of c.cells
both_kept c a b e = write_of_kept (write_of c a) (write_of_style c a ∙ e) b ∙ write_of_kept c e a

-- cell k of a row, both counted from 0, is the next, and the cursor stands there with the row's pen
pub record Stands (memory : List ℕ) (row k pen : ℕ) (c : Captions) : Type 0 where
  pub loaded : Loaded memory (row * 64 + k * 2) c
  pub place : k < 32 → c.mode.pop ≡ cursor (row_number (row + 1)) (column_number (k + 1)) pen

-- the cursor elsewhere
turn : (memory : List ℕ) (n : ℕ) (c : Captions) (q : Cursor) → Loaded memory n c → Loaded memory n (turned_of c q)
unfolding turned_of with_cursor
turn memory n c q h = record { style = h.style; text = h.text; size = h.size; front = h.front; rest = h.rest }

turned_pop : (c : Captions) (q : Cursor) → c.mode.style ≡ 2 → (turned_of c q).mode.pop ≡ q
unfolding turned_of
turned_pop c q e = with_cursor_pop c.mode e q

-- the cell at byte n of the memory, written
module _ (memory : List ℕ) (n : ℕ) (c : Captions) (h : Loaded memory n c) (r : Row) (q : Column) (at : cell_at 960 r q ≡ 960 + n) (fits : n + 2 ≤ 960) where
  loaded_cell : (m : Mode) (code pen : ℕ) → m.style ≡ 2 → m.text ≡ 0 → get_or memory n 0 ≡ code → get_or memory (n + 1) 0 ≡ pen
      → Loaded memory (n + 2) (captions m (write_cell_of c.cells 960 r q code pen))
  loaded_cell m code pen s t own same =
      let d = c.cells in
      let e = write_cell_of d 960 r q code pen in
      let size = h.size in
      let outside : (i : ℕ) → (960 + i < cell_at 960 r q) ⊎ (cell_at 960 r q + 2 ≤ 960 + i) → get_or e (960 + i) 0 ≡ get_or d (960 + i) 0 =
      λ i o. write_cell_of_outside d 960 r q code pen (960 + i) o in
      record {
        style = s;
        text = t;
        size = simp length-write_cell_of size;
        front = λ i l. below_cases i n (λ b. outside i (inl (omega arith)) ∙ h.front i b)
            (λ g. below_cases i (n + 1)
            (λ b.
            let here : i ≡ n = omega arith in
            let there : 960 + i ≡ cell_at 960 r q = omega arith in
            ap (λ (x : ℕ). get_or e x 0) there ∙ write_cell_of_code d 960 r q code pen (omega arith) ∙ sym own ∙ ap (λ (x : ℕ). get_or memory x 0) (sym here))
            (λ b.
            let here : i ≡ n + 1 = omega arith in
            let there : 960 + i ≡ cell_at 960 r q + 1 = omega arith in
            ap (λ (x : ℕ). get_or e x 0) there ∙ write_cell_of-pen d 960 r q code pen (omega arith) ∙ sym same ∙ ap (λ (x : ℕ). get_or memory x 0) (sym here)));
        rest = λ i g l. outside i (inr (omega arith)) ∙ h.rest i (omega arith) l;
      }

module _ (memory : List ℕ) (row k pen : ℕ) (c : Captions) (down : row < 15) (inside : k < 32) (h : Stands memory row k pen c) where
  -- a character that stands there in the memory is written, with the memory's pen
  pub put : (code : ℕ) → get_or memory (row * 64 + k * 2) 0 ≡ code → get_or memory (row * 64 + k * 2 + 1) 0 ≡ pen → Stands memory row (k + 1) pen (write_of c code)
  unfolding after_write_of with_cursor
  put code own same =
      let l = h.loaded in
      let here = h.place inside in
      let r = row_number (row + 1) in
      let q = column_number (k + 1) in
      let m = with_cursor c.mode (after_write_of (cursor r q pen)) in
      let e : write_of c code ≡ captions m (write_cell_of c.cells 960 r q code pen) =
      write_of_pop c code l.style ∙ (λ i. captions (with_cursor c.mode (after_write_of (here i))) (write_cell_of c.cells 960 (here i).row (here i).column code (here i).pen)) in
      let next : row * 64 + k * 2 + 2 ≡ row * 64 + (k + 1) * 2 = omega arith in
      rw e (record {
        loaded = rw next at (loaded_cell memory (row * 64 + k * 2) c l r q (omega arith) (omega arith) m code pen l.style l.text own same);
        place = λ more. let on : min (k + 1 + 1) 32 ≡ k + 1 + 1 = omega arith in with_cursor_pop c.mode l.style (after_write_of (cursor r q pen)) ∙ ap (λ (x : ℕ). cursor r (column_number x) pen) on;
      })

  -- and so is a special character
  pub special : (code : ℕ) → get_or memory (row * 64 + k * 2) 0 ≡ code → get_or memory (row * 64 + k * 2 + 1) 0 ≡ pen → Stands memory row (k + 1) pen (act_of c (Special code))
  unfolding act_of gated
  special code own same = rw (ready c.mode h.loaded.style h.loaded.text) (put code own same)

  -- a tab leads over empty cells
  pub tabs : (j : ℕ) → k + j < 32 → ((i : ℕ) → row * 64 + k * 2 ≤ i → i < row * 64 + (k + j) * 2 → get_or memory i 0 ≡ 0) → Stands memory row (k + j) pen (act_of c (Tab j))
  unfolding act_of gated tabbed_of tab_of
  tabs j far none =
      let l = h.loaded in
      let here = cursor_of_pop c.mode l.style ∙ h.place inside in
      let on : min (k + 1 + j) 32 ≡ k + j + 1 = omega arith in
      rw (ready c.mode l.style l.text) (record {
        loaded = skip memory (row * 64 + k * 2) (row * 64 + (k + j) * 2) _ (omega arith) (omega arith) none (turn memory (row * 64 + k * 2) c _ l);
        place = λ more. turned_pop c (tab_of (cursor_of c.mode) j) l.style ∙ (λ i. tab_of (here i) j) ∙ ap (λ (x : ℕ). cursor (row_number (row + 1)) (column_number x) pen) on;
      })

-- a preamble
pub addresses : (memory : List ℕ) (row k pen : ℕ) (c : Captions) → row < 15 → k < 32 → ((i : ℕ) → row * 64 ≤ i → i < row * 64 + k * 2 → get_or memory i 0 ≡ 0)
    → Loaded memory (row * 64) c → Stands memory row k pen (act_of c (Preamble (row_number (row + 1)) (column_number (k + 1)) pen))
unfolding act_of gated preamble_of
addresses memory row k pen c down inside none h =
    let q = cursor (row_number (row + 1)) (column_number (k + 1)) pen in
    let other : eqb c.mode.style 1 ≡ false = ap (λ (s : ℕ). eqb s 1) h.style in
    rw (ready c.mode h.style h.text, other) (record {
      loaded = skip memory (row * 64) (row * 64 + k * 2) _ (omega arith) (omega arith) none (turn memory (row * 64) c q h);
      place = λ more. turned_pop c q h.style;
    })
