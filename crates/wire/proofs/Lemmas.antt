-- Facts about places and parts of a list, and about bytes that pass for a frame line, on which the laws rest. Assumes nothing.
use mathlib.Core.Path.{◌≡◌, refl, ap, sym, ◌∙◌}
use mathlib.Core.Bool.{Bool, true, ◌&&◌}
use mathlib.Core.List.{List, [], ◌∷◌}
use Prim.Native.Nat.{ℕ, zero, suc, ◌+◌, ◌<◌, ◌≤◌}
use native.Mathlib.Nat.{add-zero, add-suc, le_of_suc-le-suc, not-suc-le-zero}
use native.Mathlib.Omega.{arith}
use lib.Dec.{eqb}
use lib.ListN.{length, get_or, set, take, length-take, length-drop}
use lib.Seq.{drop-cons, take_all}
use borrow.Author.Tests.{eqb-true, ltb-true}
use Rattle.facts.specs.Every.{every}
use Rattle.facts.specs.Over.{part}
use Rattle.facts.proofs.Choice.{pick_cases, and_left, and_right}
use Rattle.facts.proofs.Every.{every_at}
use Rattle.wire.specs.Line.{place_of, digit_of, is_digit, is_line}

-- the place of a number in a list holds the number
pub get_d_place_of : (l : List ℕ) (x : ℕ) → place_of l x < length l → get_or l (place_of l x) 0 ≡ x
get_d_place_of [] x h = absurd (not-suc-le-zero h)
get_d_place_of (y ∷ l) x h =
    pick_cases (λ (n : ℕ). n < suc (length l) → get_or (y ∷ l) n 0 ≡ x) (eqb x y) (λ e k. sym (eqb-true x y e))
    (λ e k. get_d_place_of l x (le_of_suc-le-suc k)) h

-- n numbers of a list, each by its place from k on
abbrev listed : (ℕ → ℕ) → ℕ → ℕ → List ℕ
listed f k zero = []
listed f k (suc n) = f k ∷ listed f (suc k) n

part-listed : (reel : List ℕ) (at k n : ℕ) → at + k + n ≤ length reel → part reel (at + k) n ≡ listed (λ j. get_or reel (at + j) 0) k n
part-listed reel at k zero h = refl
part-listed reel at k (suc n) h =
    ap (take (suc n)) (drop-cons reel (at + k) 0 (omega arith))
    ∙ ap (λ (l : List ℕ). get_or reel (at + k) 0 ∷ l) (rw add-suc at (part-listed reel at (suc k) n (omega arith)))

pub part_five : (reel : List ℕ) (at : ℕ) → at + 5 ≤ length reel
    → part reel at 5 ≡ get_or reel at 0 ∷ get_or reel (at + 1) 0 ∷ get_or reel (at + 2) 0 ∷ get_or reel (at + 3) 0 ∷ get_or reel (at + 4) 0 ∷ []
part_five reel at h = simp add-zero at (part-listed reel at 0 5 (omega arith))

-- a list of five, each by its place, and what it is when each has been stored anew
pub list_five : (l : List ℕ) → length l ≡ 5 → l ≡ get_or l 0 0 ∷ get_or l 1 0 ∷ get_or l 2 0 ∷ get_or l 3 0 ∷ get_or l 4 0 ∷ []
list_five l e = sym (take_all 5 l (omega arith)) ∙ part_five l 0 (omega arith)

pub set_five : (l : List ℕ) (v w x y z : ℕ) → length l ≡ 5 → set (set (set (set (set l 0 v) 1 w) 2 x) 3 y) 4 z ≡ v ∷ w ∷ x ∷ y ∷ z ∷ []
set_five l v w x y z e = ap (λ (d : List ℕ). set (set (set (set (set d 0 v) 1 w) 2 x) 3 y) 4 z) (list_five l e)

pub part_inside : (reel : List ℕ) (at : ℕ) → length (part reel at 5) ≡ 5 → at + 5 ≤ length reel
part_inside reel at e = let n = simp (length-take, length-drop) at e in omega arith

-- what the test of a frame line says of its bytes
module _ (l : List ℕ) (t : is_line l ≡ true) where
  abbrev four_digits : Bool
  four_digits = every (λ k. is_digit (get_or l k 0)) 4

  behind : (four_digits && eqb (get_or l 4 0) 0x0a) ≡ true
  behind = and_right (eqb (length l) 5) (four_digits && eqb (get_or l 4 0) 0x0a) t

  pub line_size : length l ≡ 5
  line_size = eqb-true (length l) 5 (and_left (eqb (length l) 5) (four_digits && eqb (get_or l 4 0) 0x0a) t)

  pub line_digit : (k : ℕ) → k < 4 → digit_of (get_or l k 0) < 16
  line_digit k h =
      ltb-true (digit_of (get_or l k 0)) 16
      (every_at (λ (j : ℕ). is_digit (get_or l j 0)) 4 (and_left four_digits (eqb (get_or l 4 0) 0x0a) behind) k h)

  pub line_feed : get_or l 4 0 ≡ 0x0a
  line_feed = eqb-true (get_or l 4 0) 0x0a (and_right four_digits (eqb (get_or l 4 0) 0x0a) behind)
