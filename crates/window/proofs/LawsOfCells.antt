-- While the mark is set, non-empty displayed cells lie in the window: kept by a roll, and made by a cut and by a move; so a move to the same row changes nothing. Assumes nothing.
use mathlib.Core.Path.{◌≡◌, refl, sym, ap, ◌∙◌}
use mathlib.Core.Logic.{inr, ⊎_elim}
use mathlib.Core.Bool.{true}
use mathlib.Core.List.{List}
use Prim.Native.Nat.{ℕ, ◌+◌, ◌-◌, ◌*◌, ◌/◌, ◌<◌, ◌≤◌}
use native.Mathlib.Omega.{arith}
use lib.ListN.{get_or}
use Rattle.facts.specs.Over.{over, part}
use Rattle.facts.proofs.Choice.{below_cases}
use Rattle.cell.specs.declared.Row.{Row}
use Rattle.cell.specs.Code.{is_cell}
use Rattle.cell.proofs.Laws.{empty_is_cell, is_cell_empty}
use Rattle.page.specs.Page.{empty_rows_of, empty_all_of}
use Rattle.window.specs.Window.{above_of, roll_of, empty_outside_of, move_of}
use Rattle.page.specs.Cells.{Each, Allowed}
use Rattle.window.specs.Cells.{Kept}
use Rattle.page.proofs.Laws.{Outside, over_own, length-empty_all_of, empty_all_of_outside}
use Rattle.window.proofs.LawsOfRows.{wiped}
use Rattle.page.proofs.Each.{each_so, wipe_out, wipe_each, copy_each}

module _ {mark : ℕ} {base : Row} {depth : ℕ} where
  -- an empty cell may stand anywhere
  pub kept_empty : (k : ℕ) → Kept mark base depth k 0 0
  kept_empty k = record { allowed = empty_is_cell; above = λ m t. refl; below = λ m t u. refl }

  -- an allowed cell may stand in the window, or in the other memory
  pub kept_in : {k code pen : ℕ} → is_cell code pen ≡ true → (mark ≡ 1 → (above_of base depth * 32 ≤ k) × (k < 480 → k < base.0 * 32)) → Kept mark base depth k code pen
  kept_in e f = record { allowed = e; above = λ m t. let g = f m in omega arith; below = λ m t u. let g = (f m).1 u in omega arith }

pub kept_allowed : {mark : ℕ} {base : Row} {depth : ℕ} {d : List ℕ} → Each (Kept mark base depth) d → Each Allowed d
kept_allowed h = each_so (λ k c p l g. g.allowed) h

-- with the mark clear an allowed cell may stand anywhere
pub kept_free : {mark : ℕ} {base : Row} {depth : ℕ} {d : List ℕ} → mark ≡ 0 → Each Allowed d → Each (Kept mark base depth) d
kept_free clear h = each_so (λ k c p l e. kept_in e (λ m. omega arith)) h

pub roll_of_kept : {mark : ℕ} {d : List ℕ} (base : Row) (depth : ℕ) → 1 ≤ base.0 → base.0 ≤ 15 → 1 ≤ depth → Each (Kept mark base depth) d
    → Each (Kept mark base depth) (roll_of d 0 base depth)
unfolding roll_of empty_rows_of
roll_of_kept base depth low high deep h =
    let row = base.0 in
    let up = above_of base depth in
    wipe_each (0 + (row - 1) * 64) (1 * 64) ((row - 1) * 32) 32 (omega arith) refl kept_empty
    (copy_each (0 + up * 64) (0 + up * 64 + 64) ((row - 1 - up) * 64) (up * 32) (up * 32 + 32) ((row - 1 - up) * 32)
    (omega arith) (omega arith) (omega arith) (omega arith) (λ j c p t g. kept_in g.allowed (λ m. omega arith)) h h)

pub empty_outside_of_kept : {mark : ℕ} {d : List ℕ} (base : Row) (depth : ℕ) → base.0 ≤ 15 → Each Allowed d → Each (Kept mark base depth) (empty_outside_of d 0 base depth)
unfolding empty_outside_of empty_rows_of
empty_outside_of_kept base depth high h =
    let row = base.0 in
    let up = above_of base depth in
    wipe_out {Q = λ k c p. (is_cell c p ≡ true) × (k < above_of base depth * 32 → c ≡ 0)}
    (0 + row * 64) ((15 - row) * 64) (row * 32) ((15 - row) * 32) (omega arith) (omega arith) kept_empty
    (λ k c p t q. record { allowed = q.0; above = λ m. q.1; below = λ m u v. omega arith })
    (λ k c p b t q. record { allowed = q.0; above = λ m. q.1; below = λ m u v. omega arith })
    (wipe_out {Q = Allowed} (0 + 0 * 64) (up * 64) 0 (up * 32) (omega arith) (omega arith) (λ k. (empty_is_cell, λ t. refl))
    (λ k c p t e. (e, λ u. omega arith)) (λ k c p b t e. (e, λ u. omega arith)) h)

-- the window goes from one base row to another and fits at both
pub move_of_kept : {mark : ℕ} {d : List ℕ} (old new : Row) (depth : ℕ) → depth ≤ old.0 → old.0 ≤ 15 → depth ≤ new.0 → new.0 ≤ 15 → Each Allowed d
    → Each (Kept mark new depth) (move_of d 0 old new depth)
unfolding move_of empty_all_of
move_of_kept old new depth from_fits from_high to_fits to_high h =
    let from = above_of old depth in
    let to = above_of new depth in
    copy_each {R = Allowed} (0 + to * 64) (0 + from * 64) (depth * 64) (to * 32) (from * 32) (depth * 32)
    (omega arith) (omega arith) (omega arith) (omega arith) (λ j c p t e. kept_in e (λ m. omega arith)) h
    (wipe_out {Q = Allowed} 0 960 0 480 refl refl kept_empty (λ k c p t e. kept_in e (λ m. omega arith)) (λ k c p b t e. kept_in e (λ m. omega arith)) h)

-- both bytes of an empty cell are 0
cell_none : (d : List ℕ) (k : ℕ) → is_cell (get_or d (k / 2 * 2) 0) (get_or d (k / 2 * 2 + 1) 0) ≡ true → get_or d (k / 2 * 2) 0 ≡ 0 → get_or d k 0 ≡ 0
cell_none d k e none =
    below_cases (k - k / 2 * 2) 1
    (λ t.
    let code : k ≡ k / 2 * 2 = omega arith in
    ap (λ (i : ℕ). get_or d i 0) code ∙ none)
    (λ t.
    let pen : k ≡ k / 2 * 2 + 1 = omega arith in
    ap (λ (i : ℕ). get_or d i 0) pen ∙ is_cell_empty (get_or d (k / 2 * 2 + 1) 0) (rw none at e))

-- with the mark set, every displayed byte outside the window is 0
pub kept_none : {mark : ℕ} {base : Row} {depth : ℕ} {d : List ℕ} (k : ℕ) → mark ≡ 1 → Each (Kept mark base depth) d → k < 960
    → Outside (above_of base depth * 64) ((base.0 - above_of base depth) * 64) k → get_or d k 0 ≡ 0
kept_none {base = base} {depth = depth} {d = d} k set h shown out =
    let cell = h.at (k / 2) (omega arith) in
    cell_none d k cell.allowed (⊎_elim (λ low. cell.above set (omega arith)) (λ high. cell.below set (omega arith) (omega arith)) out)

-- A move to the same base row changes nothing: with the mark set the window stays, and outside it there is nothing to empty
pub move_of_same : {mark : ℕ} {d : List ℕ} (old new : Row) (depth : ℕ) → old.0 ≡ new.0 → depth ≤ old.0 → old.0 ≤ 15 → mark ≡ 1 → Each (Kept mark old depth) d
    → move_of d 0 old new depth ≡ d
unfolding move_of empty_all_of
move_of_same {d = d} old new depth e fits high set h =
    let size = h.size in
    let place : 0 + above_of new depth * 64 ≡ above_of old depth * 64 = omega arith in
    let source : 0 + above_of old depth * 64 ≡ above_of old depth * 64 = omega arith in
    let span : old.0 - above_of old depth ≡ depth = omega arith in
    (λ i. over (empty_all_of d 0) (place i) (part d (source i) (depth * 64)))
    ∙ over_own (empty_all_of d 0) d (above_of old depth * 64) (depth * 64) (length-empty_all_of d 0) (omega arith)
    (λ k b out. below_cases k 960
    (λ shown. wiped d 0 960 k (omega arith) (omega arith) (omega arith) ∙ sym (kept_none k set h shown (rw span out)))
    (λ other. empty_all_of_outside d 0 k (inr (omega arith))))
