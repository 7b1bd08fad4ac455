-- What holds of each cell holds after a write, a wipe, a copy and an exchange. Assumes nothing.
use mathlib.Core.Path.{◌≡◌, refl, ap, subst, ◌∙◌}
use mathlib.Core.List.{List, [], ◌∷◌}
use Prim.Native.Nat.{ℕ, zero, suc, ◌+◌, ◌-◌, ◌*◌, ◌<◌, ◌≤◌}
use native.Mathlib.Nat.{add-zero, not-suc-le-zero, le_of_suc-le-suc}
use native.Mathlib.Omega.{arith}
use lib.ListN.{length, get_or, replicate, length-replicate, get_or-replicate}
use Rattle.facts.specs.Over.{over, part}
use Rattle.facts.proofs.Choice.{below_cases}
use Rattle.facts.proofs.Over.{length-over, before_over, behind_over, in_over, length-part, part_at}
use Rattle.cell.specs.declared.Row.{Row}
use Rattle.cell.specs.declared.Column.{Column}
use Rattle.cell.specs.Place.{cell_at}
use Rattle.page.specs.Page.{write_cell_of, empty_cell_of, empty_from_of, empty_all_of, exchanged_of}
use Rattle.page.specs.Cells.{Each, Allowed}

-- two bytes of a cell, each by its own equation
both : (P : ℕ → ℕ → ℕ → Type 0) (k : ℕ) {c c₀ p p₀ : ℕ} → c ≡ c₀ → p ≡ p₀ → P k c₀ p₀ → P k c p
both P k e f h = rw (e, f) h

pub each_so : {P Q : ℕ → ℕ → ℕ → Type 0} {d : List ℕ} → ((k c p : ℕ) → k < 960 → P k c p → Q k c p) → Each P d → Each Q d
each_so f h = record { size = h.size; at = λ k l. f k _ _ l (h.at k l) }

-- n cells of s over d from cell a on: Q holds of what is kept, and P of what is put
pub over_each : {Q P : ℕ → ℕ → ℕ → Type 0} {d : List ℕ} (s : List ℕ) (at a n : ℕ) → at ≡ a * 2 → length s ≡ n * 2 → Each Q d
    → ((k c p : ℕ) → k < a → Q k c p → P k c p) → ((k c p : ℕ) → k < 960 → a + n ≤ k → Q k c p → P k c p)
    → ((j : ℕ) → j < n → P (a + j) (get_or s (j * 2) 0) (get_or s (j * 2 + 1) 0)) → Each P (over d at s)
over_each {Q} {P} {d} s at a n e l h low high put = record { size = length-over d at s ∙ h.size; at = each }
  where
    each : (k : ℕ) → k < 960 → P k (get_or (over d at s) (k * 2) 0) (get_or (over d at s) (k * 2 + 1) 0)
    each k b = below_cases k a
        (λ t. both P k (before_over d at s (k * 2) (omega arith)) (before_over d at s (k * 2 + 1) (omega arith)) (low k _ _ t (h.at k b)))
        (λ t. below_cases k (a + n)
        (λ u.
        let size = h.size in
        let f : k * 2 ≡ at + (k - a) * 2 = omega arith in
        let g : k * 2 + 1 ≡ at + ((k - a) * 2 + 1) = omega arith in
        let m : a + (k - a) ≡ k = omega arith in
        both P k (ap (λ (i : ℕ). get_or (over d at s) i 0) f ∙ in_over d at s ((k - a) * 2) (omega arith) (omega arith))
        (ap (λ (i : ℕ). get_or (over d at s) i 0) g ∙ in_over d at s ((k - a) * 2 + 1) (omega arith) (omega arith))
        (subst (λ (i : ℕ). P i (get_or s ((k - a) * 2) 0) (get_or s ((k - a) * 2 + 1) 0)) m (put (k - a) (omega arith))))
        (λ u. both P k (behind_over d at s (k * 2) (omega arith)) (behind_over d at s (k * 2 + 1) (omega arith)) (high k _ _ b u (h.at k b))))

-- one cell
put_each : {P : ℕ → ℕ → ℕ → Type 0} {d : List ℕ} (at a code pen : ℕ) → at ≡ a * 2 → P a code pen → Each P d → Each P (over d at (code ∷ pen ∷ []))
put_each {P} at a code pen e new h = over_each {Q = P} (code ∷ pen ∷ []) at a 1 e refl h (λ k c p t q. q) (λ k c p b t q. q) put
  where
    put : (j : ℕ) → j < 1 → P (a + j) (get_or (code ∷ pen ∷ []) (j * 2) 0) (get_or (code ∷ pen ∷ []) (j * 2 + 1) 0)
    put zero l = rw add-zero new
    put (suc j) l = absurd (not-suc-le-zero (le_of_suc-le-suc l))

-- m cells wiped: what is kept need hold only of the others
pub wipe_out : {Q P : ℕ → ℕ → ℕ → Type 0} {d : List ℕ} (at n a m : ℕ) → at ≡ a * 2 → n ≡ m * 2 → ((k : ℕ) → P k 0 0)
    → ((k c p : ℕ) → k < a → Q k c p → P k c p) → ((k c p : ℕ) → k < 960 → a + m ≤ k → Q k c p → P k c p) → Each Q d → Each P (over d at (replicate n 0))
wipe_out {Q} {P} at n a m e l none low high h =
    over_each {Q = Q} (replicate n 0) at a m e (length-replicate n 0 ∙ l) h low high
    (λ j t. both P (a + j) (get_or-replicate n (j * 2) 0 0 (omega arith)) (get_or-replicate n (j * 2 + 1) 0 0 (omega arith)) (none (a + j)))

pub wipe_each : {P : ℕ → ℕ → ℕ → Type 0} {d : List ℕ} (at n a m : ℕ) → at ≡ a * 2 → n ≡ m * 2 → ((k : ℕ) → P k 0 0) → Each P d
    → Each P (over d at (replicate n 0))
wipe_each {P} at n a m e l none h = wipe_out {Q = P} at n a m e l none (λ k c p t q. q) (λ k c p b t q. q) h

-- n cells of o from cell b on over d from cell a on
pub copy_each : {R P : ℕ → ℕ → ℕ → Type 0} {o d : List ℕ} (at from size a b n : ℕ) → at ≡ a * 2 → from ≡ b * 2 → size ≡ n * 2 → b + n ≤ 960
    → ((j c p : ℕ) → j < n → R (b + j) c p → P (a + j) c p) → Each R o → Each P d → Each P (over d at (part o from size))
copy_each {R} {P} {o} at from size a b n e f l fits new r h =
    let s = r.size in
    over_each {Q = P} (part o from size) at a n e (length-part o from size (omega arith) ∙ l) h (λ k c p t q. q) (λ k c p u t q. q) put
  where
    put : (j : ℕ) → j < n → P (a + j) (get_or (part o from size) (j * 2) 0) (get_or (part o from size) (j * 2 + 1) 0)
    put j t =
        let code : from + j * 2 ≡ (b + j) * 2 = omega arith in
        let pen : from + (j * 2 + 1) ≡ (b + j) * 2 + 1 = omega arith in
        both P (a + j) (part_at o from size (j * 2) (omega arith) ∙ ap (λ (i : ℕ). get_or o i 0) code)
        (part_at o from size (j * 2 + 1) (omega arith) ∙ ap (λ (i : ℕ). get_or o i 0) pen) (new j _ _ t (r.at (b + j) (omega arith)))

pub none_each : {P : ℕ → ℕ → ℕ → Type 0} → ((k : ℕ) → P k 0 0) → Each P (replicate 1920 0)
none_each {P} none = record {
  size = length-replicate {A = ℕ} 1920 0;
  at = λ k l. both P k (get_or-replicate 1920 (k * 2) 0 0 (omega arith)) (get_or-replicate 1920 (k * 2 + 1) 0 0 (omega arith)) (none k);
}

-- The operations on a memory, for a cell whose number is known.

module _ {P : ℕ → ℕ → ℕ → Type 0} {d : List ℕ} (memory : ℕ) (row : Row) (column : Column) (cell : ℕ) (even : cell_at memory row column ≡ cell * 2) where
  pub write_cell_of_each : (code pen : ℕ) → P cell code pen → Each P d → Each P (write_cell_of d memory row column code pen)
  unfolding write_cell_of
  write_cell_of_each code pen new h = put_each (cell_at memory row column) cell code pen even new h

  pub empty_cell_of_each : P cell 0 0 → Each P d → Each P (empty_cell_of d memory row column)
  unfolding empty_cell_of
  empty_cell_of_each none h = put_each (cell_at memory row column) cell 0 0 even none h

  pub empty_from_of_each : column.0 ≤ 32 → ((k : ℕ) → P k 0 0) → Each P d → Each P (empty_from_of d memory row column)
  unfolding empty_from_of
  empty_from_of_each high none h = wipe_each (cell_at memory row column) (66 - column.0 * 2) cell (33 - column.0) even (omega arith) none h

pub empty_all_of_each : {P : ℕ → ℕ → ℕ → Type 0} {d : List ℕ} (memory half : ℕ) → memory ≡ half * 2 → ((k : ℕ) → P k 0 0) → Each P d → Each P (empty_all_of d memory)
unfolding empty_all_of
empty_all_of_each memory half e none h = wipe_each memory 960 half 480 e refl none h

pub exchanged_of_each : {d : List ℕ} → Each Allowed d → Each Allowed (exchanged_of d)
unfolding exchanged_of
exchanged_of_each h =
    copy_each {R = Allowed} {P = Allowed} 960 0 960 480 0 480 refl refl refl (omega arith) (λ j c p t e. e) h
    (copy_each {R = Allowed} {P = Allowed} 0 960 960 0 480 480 refl refl refl (omega arith) (λ j c p t e. e) h h)
