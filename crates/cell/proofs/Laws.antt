-- The laws of pens, cells and cursors: the pen's byte both ways, which pens the codes give, and that every move stays on the screen. Assumes nothing.
use mathlib.Core.Path.{◌≡◌, refl, sym, ◌∙◌}
use mathlib.Core.Bool.{Bool, true, false, ◌&&◌}
use Prim.Native.Nat.{ℕ, ◌+◌, ◌-◌, ◌*◌, ◌/◌, ◌%◌, ◌<◌, ◌≤◌, min}
use native.Mathlib.Omega.{arith}
use lib.Dec.{eqb, leb, ltb}
use borrow.Author.Tests.{le-leb, lt-ltb, leb-true, ltb-true, leb-false, eqb-true, eqb-false}
use Rattle.facts.proofs.Choice.{pick_cases, and_left, and_right, and_both, implies_of}
use Rattle.facts.proofs.Every.{agree}
use Rattle.cell.specs.declared.Pen.{Pen}
use Rattle.cell.specs.declared.Cursor.{Cursor}
use Rattle.cell.specs.Pen.{one, pen, pack_of, unpack_of, is_pen, after_mid_row, of_preamble, flashing, mid_row_pen_of, preamble_pen_of, flash_pen_of}
use Rattle.cell.specs.Code.{is_code, is_cell}
use Rattle.cell.specs.Cursor.{at_column, with_pen, after_write_of, back_of, tab_of, preamble_column_of, Placed}
use Rattle.cell.proofs.Bits.{one_small}

-- The pen's byte, both ways.

one_is : (b : Bool) → eqb (one b) 1 ≡ b
one_is true = refl
one_is false = refl

bit_is : (x : ℕ) → x < 2 → one (eqb x 1) ≡ x
bit_is x h = go (eqb x 1) refl
  where
    go : (b : Bool) → eqb x 1 ≡ b → one b ≡ x
    go true e = sym (eqb-true x 1 e)
    go false e =
        let other : x ≡ 1 → ⊥ = eqb-false x 1 e in
        omega arith

pub unpack_of-pack_of : (p : Pen) → p.colour < 8 → unpack_of (pack_of p) ≡ p
unfolding pack_of unpack_of
unpack_of-pack_of p h =
    let i = one_small p.italics in
    let u = one_small p.underline in
    let f = one_small p.flash in
    let c : pack_of p % 8 ≡ p.colour = omega arith in
    let from3 : pack_of p / 8 ≡ one p.italics + one p.underline * 2 + one p.flash * 4 = omega arith in
    let from4 : pack_of p / 16 ≡ one p.underline + one p.flash * 2 = omega arith in
    let from5 : pack_of p / 32 ≡ one p.flash = omega arith in
    let bit3 : pack_of p / 8 % 2 ≡ one p.italics = rw from3 (omega arith) in
    let bit4 : pack_of p / 16 % 2 ≡ one p.underline = rw from4 (omega arith) in
    let bit5 : pack_of p / 32 % 2 ≡ one p.flash = rw from5 (omega arith) in
    (λ k. pen (c k) (eqb (bit3 k) 1) (eqb (bit4 k) 1) (eqb (bit5 k) 1))
    ∙ (λ k. pen p.colour (one_is p.italics k) (one_is p.underline k) (one_is p.flash k))

pub pack_of-unpack_of : (byte : ℕ) → byte < 64 → pack_of (unpack_of byte) ≡ byte
unfolding pack_of unpack_of
pack_of-unpack_of byte h =
    let bit3 = bit_is (byte / 8 % 2) (omega arith) in
    let bit4 = bit_is (byte / 16 % 2) (omega arith) in
    let bit5 = bit_is (byte / 32 % 2) (omega arith) in
    (λ k. byte % 8 + bit3 k * 8 + bit4 k * 16 + bit5 k * 32) ∙ agree (λ b. b % 8 + b / 8 % 2 * 8 + b / 16 % 2 * 16 + b / 32 % 2 * 32) (λ b. b) 64 refl byte h

-- Which bytes are pens, and that the codes give pens.

pub pen_colour : (byte : ℕ) → is_pen byte ≡ true → byte % 8 ≤ 6
unfolding is_pen
pen_colour byte e = leb-true (byte % 8) 6 (and_left (leb (byte % 8) 6) (ltb byte 64) e)

pub pen_small : (byte : ℕ) → is_pen byte ≡ true → byte < 64
unfolding is_pen
pen_small byte e = ltb-true byte 64 (and_right (leb (byte % 8) 6) (ltb byte 64) e)

pub is_pen_of : (byte : ℕ) → byte % 8 ≤ 6 → byte < 64 → is_pen byte ≡ true
unfolding is_pen
is_pen_of byte c s = and_both (le-leb (byte % 8) 6 c) (lt-ltb byte 64 s)

is_pen-pack_of : (p : Pen) → p.colour ≤ 6 → is_pen (pack_of p) ≡ true
unfolding pack_of
is_pen-pack_of p h =
    let i = one_small p.italics in
    let u = one_small p.underline in
    let f = one_small p.flash in
    is_pen_of (pack_of p) (omega arith) (omega arith)

pub is_pen-mid_row_pen_of : (byte b : ℕ) → is_pen byte ≡ true → 0x20 ≤ b → b ≤ 0x2f → is_pen (mid_row_pen_of byte b) ≡ true
unfolding after_mid_row unpack_of
is_pen-mid_row_pen_of byte b e low high =
    is_pen-pack_of (after_mid_row (unpack_of byte) b)
    (pick_cases (λ (p : Pen). p.colour ≤ 6) (ltb b 0x2e) (λ t. omega (arith, ltb-true b 0x2e t)) (λ t. pen_colour byte e))

pub is_pen-preamble_pen_of : (b : ℕ) → is_pen (preamble_pen_of b) ≡ true
unfolding of_preamble
is_pen-preamble_pen_of b =
    is_pen-pack_of (of_preamble b)
    (pick_cases (λ (p : Pen). p.colour ≤ 6) (ltb (b % 32) 0x0e) (λ t. omega (arith, ltb-true (b % 32) 0x0e t))
    (λ t. pick_cases (λ (p : Pen). p.colour ≤ 6) (ltb (b % 32) 0x10) (λ u. omega arith) (λ u. omega arith)))

pub is_pen-flash_pen_of : (byte : ℕ) → is_pen byte ≡ true → is_pen (flash_pen_of byte) ≡ true
unfolding flashing unpack_of
is_pen-flash_pen_of byte e = is_pen-pack_of (flashing (unpack_of byte)) (pen_colour byte e)

-- Cells.

pub empty_is_cell : is_cell 0 0 ≡ true
unfolding is_cell is_code is_pen
empty_is_cell = refl

pub is_cell_of_lem : (code p : ℕ) → is_code code ≡ true → 1 ≤ code → is_pen p ≡ true → is_cell code p ≡ true
unfolding is_cell
is_cell_of_lem code p c low h =
    and_both (and_both c h)
    (implies_of (eqb code 0)
    (λ t.
    let none : code ≡ 0 = eqb-true code 0 t in
    let wrong : ⊥ = omega arith in
    absurd wrong))

pub is_cell_code : (code p : ℕ) → is_cell code p ≡ true → is_code code ≡ true
unfolding is_cell
is_cell_code code p e = and_left (is_code code) (is_pen p) (and_left (is_code code && is_pen p) _ e)

pub is_cell-pen : (code p : ℕ) → is_cell code p ≡ true → is_pen p ≡ true
unfolding is_cell
is_cell-pen code p e = and_right (is_code code) (is_pen p) (and_left (is_code code && is_pen p) _ e)

pub is_cell_empty : (p : ℕ) → is_cell 0 p ≡ true → p ≡ 0
unfolding is_cell
is_cell_empty p e = eqb-true p 0 (and_right (is_code 0 && is_pen p) (eqb p 0) e)

-- Cursors: every move stays on the screen and keeps a pen that is allowed.

module _ (c : Cursor) (h : Placed c) where
  abbrev at_column_lem : (n : ℕ) → 1 ≤ n → n ≤ 32 → Placed (at_column c n)
  at_column_lem n low high = record {
    place = record { row_low = h.place.row_low; row_high = h.place.row_high; column_low = low; column_high = high };
    pen = h.pen;
  }

  pub with_pen_keeps_placed : (p : ℕ) → is_pen p ≡ true → Placed (with_pen c p)
  with_pen_keeps_placed p e = record { place = h.place; pen = e }

  pub after_write_of_keeps_placed : Placed (after_write_of c)
  unfolding after_write_of
  after_write_of_keeps_placed = at_column_lem (min (c.column.0 + 1) 32) (omega arith) (omega arith)

  pub tab_of_keeps_placed : (n : ℕ) → Placed (tab_of c n)
  unfolding tab_of
  tab_of_keeps_placed n =
      let low = h.place.column_low in
      at_column_lem (min (c.column.0 + n) 32) (omega arith) (omega arith)

  pub back_of_keeps_placed : Placed (back_of c)
  unfolding back_of
  back_of_keeps_placed =
      let high = h.place.column_high in
      pick_cases Placed (leb c.column.0 1) (λ t. h)
      (λ t. at_column_lem (c.column.0 - 1) (omega (arith, leb-false c.column.0 1 t)) (omega arith))

pub preamble_column_of_low : (b : ℕ) → 1 ≤ (preamble_column_of b).0
unfolding preamble_column_of
preamble_column_of_low b = pick_cases (λ (n : ℕ). 1 ≤ n) (ltb (b % 32) 0x10) (λ t. omega arith) (λ t. omega arith)

pub preamble_column_of_high : (b : ℕ) → (preamble_column_of b).0 ≤ 29
unfolding preamble_column_of
preamble_column_of_high b = pick_cases (λ (n : ℕ). n ≤ 29) (ltb (b % 32) 0x10) (λ t. omega arith) (λ t. omega arith)
