-- `place` meets its contract: what it works out was found to give the lists of the preambles at every row. Assumes nothing.
use mathlib.Core.Path.{◌≡◌, refl}
use Prim.Native.Nat.{ℕ, ◌+◌, ◌-◌, ◌*◌, ◌/◌, ◌%◌, ◌<◌, ◌≤◌}
use native.Mathlib.Omega.{arith}
use borrow.Author.Tests.{lt-ltb, le-ltb}
use lib.Dec.{ltb}
use lib.ListN.{get_or}
use Rattle.facts.specs.Choice.{pick}
use Rattle.facts.proofs.Every.{agree}
use Rattle.tape.specs.Preamble.{firsts, seconds}
use Rattle.items.proofs.rows.place.Goals as goal

-- what the code makes of a row, counted from 0
abbrev place_of : ℕ → ℕ
place_of row = pick (ltb row 4) (row + 2) (pick (ltb row 11) ((row + 6) % 16) (row - 5))

abbrev first_of : ℕ → ℕ
first_of place = 0x10 + place / 2

abbrev second_of : ℕ → ℕ
second_of place = 0x40 + place % 2 * 0x20

-- the preambles of a place set the row
abbrev Sets : ℕ → ℕ → Type 0
Sets place row = (first_of place ≡ get_or firsts row 0) × (second_of place ≡ get_or seconds row 0)

module _ {row : ℕ} (h : row < 15) where
  same : Sets (place_of row) row
  same =
      (agree (λ r. first_of (place_of r)) (λ r. get_or firsts r 0) 15 refl row h, agree (λ r. second_of (place_of r)) (λ r. get_or seconds r 0) 15 refl row h)

  same_next : row < 4 → Sets (row + 2) row
  same_next t = rw (lt-ltb row 4 t) at same

  same_on : 4 ≤ row → row < 11 → Sets ((row + 6) % 16) row
  same_on t u = rw (le-ltb row 4 t, lt-ltb row 11 u) at same

  same_before : 11 ≤ row → Sets (row - 5) row
  same_before t = rw (le-ltb row 4 (omega arith), le-ltb row 11 t) at same

pub returns-then-row-lt4 : goal.returns-then-row-lt4
returns-then-row-lt4 c = let s = same_next c.requires c.if-row-lt4.true in (s.0, s.1, omega arith)

pub returns-then-row-lt11 : goal.returns-then-row-lt11
returns-then-row-lt11 c = let s = same_on c.requires c.if-row-lt4.false c.if-row-lt11.true in (s.0, s.1, omega arith)

pub returns : goal.returns
returns c = let s = same_before c.requires c.if-row-lt11.false in (s.0, s.1, omega arith)
