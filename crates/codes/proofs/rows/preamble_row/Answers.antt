-- `preamble_row` meets its contract: what it works out was found the same as the paper's list at every pair. Assumes nothing.
-- What the code works out, of a pair and of its place.
use mathlib.Core.Path.{◌≡◌, refl, sym, ap, ◌∙◌}
use mathlib.Core.Bool.{Bool, true}
use Prim.Native.Nat.{ℕ, ◌+◌, ◌-◌, ◌*◌, ◌/◌, ◌%◌, ◌≤◌}
use native.Mathlib.Omega.{arith}
use borrow.Author.Tests.{eqb-true, ne_eqb}
use lib.Dec.{eqb, ltb}
use Rattle.std.proofs.Common.{Some}
use Rattle.cell.specs.Place.{row_number}
use Rattle.facts.specs.Choice.{pick}
use Rattle.facts.specs.Every.{every}
use Rattle.codes.specs.Rows.{preamble_row_of}
use Rattle.codes.proofs.Pairs.{every_pair_at}
use Rattle.codes.proofs.rows.preamble_row.Goals as goal

abbrev place_of : ℕ → ℕ → ℕ
place_of a b = ((a + 7) % 8 * 2 % 256 + (b - 0x20) / 0x20) % 16

abbrev down_of : ℕ → ℕ
down_of n = pick (ltb n 5) 0 7

abbrev round_of : ℕ → ℕ
round_of n = pick (ltb n 9) 0 5

abbrev right : ℕ → ℕ → Bool
right a b = let n = place_of a b in eqb ((n + down_of n + round_of n) % 16) (preamble_row_of a b)

-- "What it gives stays the same for every code."
all_right : every (λ a. every (λ b. right (a + 0x10) (b + 0x40)) 64) 8 ≡ true
unfolding preamble_row_of
all_right = refl

worked : (a b : ℕ) {down round : ℕ} → 0x10 ≤ a → a ≤ 0x17 → 0x40 ≤ b → b ≤ 0x7f → down ≡ down_of (place_of a b) → round ≡ round_of (place_of a b)
    → (place_of a b + down + round) % 16 ≡ preamble_row_of a b
worked a b al au bl bu d r =
    (λ i. (place_of a b + d i + r i) % 16)
    ∙ eqb-true _ _ (every_pair_at right 0x10 8 0x40 64 all_right a b al (omega arith) bl (omega arith))

pub returns-then-row-eq0 : goal.returns-then-row-eq0
returns-then-row-eq0 c =
    let p = c.args in
    let e = worked p.a p.b (omega arith) (omega arith) (omega arith) (omega arith) c.choose-down.ensures c.choose-round.ensures in
    let none : preamble_row_of p.a p.b ≡ 0 = sym e ∙ c.if-row-eq0.true in
    rw none

pub returns-else-row-eq0 : goal.returns-else-row-eq0
returns-else-row-eq0 c =
    let p = c.args in
    let e = worked p.a p.b (omega arith) (omega arith) (omega arith) (omega arith) c.choose-down.ensures c.choose-round.ensures in
    simp (ne_eqb _ _ (λ none. c.if-row-eq0.false (e ∙ none))) (ap (λ (n : ℕ). Some (row_number n)) e)
