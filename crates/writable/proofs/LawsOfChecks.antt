-- What the tests join is the rule: a row's cells and a screen's rows. Assumes nothing.
use mathlib.Core.Path.{◌≡◌, refl, ap, ◌∙◌}
use mathlib.Core.Bool.{Bool, true, false, ◌&&◌}
use mathlib.Core.List.{List}
use Prim.Native.Nat.{ℕ, zero, suc, ◌+◌, ◌*◌}
use native.Mathlib.Omega.{arith}
use Rattle.std.specs.List.{list_all, range_with_len}
use Rattle.facts.specs.Every.{every}
use Rattle.record.specs.Layout.{code_at, pen_at}
use Rattle.valid.specs.Check.{is_row}
use Rattle.tape.specs.Writable.{are_cells, row_pen_of, is_steady, is_cell_of, is_row_writable, is_writable}

module _ (f : ℕ → Bool) where
  and_then : (a b c : Bool) → (a && (b && c)) ≡ ((a && b) && c)
  and_then true b c = refl
  and_then false b c = refl

  and_end : (a : Bool) → (a && true) ≡ a
  and_end true = refl
  and_end false = refl

  all_more : (a n : ℕ) → list_all f (range_with_len a (suc n)) ≡ (list_all f (range_with_len a n) && f (a + n))
  all_more a zero = let e : a ≡ a + 0 = omega arith in and_end (f a) ∙ ap f e
  all_more a (suc n) =
      let e : a + 1 + n ≡ a + suc n = omega arith in
      ap (λ (t : Bool). f a && t) (all_more (a + 1) n) ∙ and_then (f a) (list_all f (range_with_len (a + 1) n)) (f (a + 1 + n))
      ∙ ap (λ (k : ℕ). (f a && list_all f (range_with_len (a + 1) n)) && f k) e

  -- a test of each number of a range is that of every number below its end
  pub every_range : (n : ℕ) → list_all f (range_with_len 0 n) ≡ every f n
  every_range zero = refl
  every_range (suc n) = let e : 0 + n ≡ n = omega arith in all_more 0 n ∙ (λ i. every_range n i && f (e i))

module _ (memory : List ℕ) where
  abbrev pub is_shared : ℕ → ℕ → ℕ → Bool
  is_shared at pen k = is_cell_of pen (code_at memory at k) (pen_at memory at k)

  pub row_joined : (at : ℕ) {pen : ℕ} {steady ok : Bool} → pen ≡ row_pen_of memory at → steady ≡ is_steady pen → ok ≡ every (is_shared at pen) 32 → (steady && ok) ≡ is_row_writable memory at
  unfolding is_row_writable
  row_joined at e s t = (λ i. s i && t i) ∙ ap (λ (p : ℕ). is_steady p && every (is_shared at p) 32) e

  pub cells_joined : list_all (λ r. is_row memory (r * 64)) (range_with_len 0 15) ≡ are_cells memory
  unfolding are_cells
  cells_joined = every_range (λ r. is_row memory (r * 64)) 15

  pub rows-joined : list_all (λ r. is_row_writable memory (r * 64)) (range_with_len 0 15) ≡ is_writable memory
  unfolding is_writable
  rows-joined = every_range (λ r. is_row_writable memory (r * 64)) 15
