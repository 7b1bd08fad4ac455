-- How many pairs raw bytes are, how long their reel is, and that whole pairs may be put one behind the other. Assumes nothing.
use mathlib.Core.Path.{◌≡◌, refl, ap, ◌∙◌, sym}
use mathlib.Core.List.{List, [], ◌∷◌, ◌++◌, append_assoc}
use Prim.Native.Nat.{ℕ, ◌+◌, ◌*◌, ◌/◌}
use native.Mathlib.Omega.{arith}
use lib.ListN.{length, length-append}
use Rattle.wire.specs.Line.{line_of}
use Rattle.wire.specs.Reel.{Pairs, pairs_of, reel_of_raw}
use Rattle.wire.proofs.Laws.{length_line_of}

-- a pair is two bytes
pub pairs_of_half : (s : List ℕ) → pairs_of s ≡ length s / 2
pairs_of_half [] = refl
pairs_of_half (x ∷ []) = refl
pairs_of_half (x ∷ y ∷ more) = omega (arith, pairs_of_half more)

-- a line is five
pub length-reel_of_raw : (s : List ℕ) → length (reel_of_raw s) ≡ pairs_of s * 5
length-reel_of_raw [] = refl
length-reel_of_raw (x ∷ []) = refl
length-reel_of_raw (x ∷ y ∷ more) = omega (arith, length-append (line_of x y) (reel_of_raw more), length_line_of x y, length-reel_of_raw more)

-- One behind the other.

pub pairs_then : (s t : List ℕ) → Pairs s → Pairs t → Pairs (s ++ t)
pairs_then [] t p q = q
pairs_then (x ∷ []) t p q = absurd p
pairs_then (x ∷ y ∷ more) t p q = (p.0, p.1, pairs_then more t p.2 q)

pub pairs_of_then : (s t : List ℕ) → Pairs s → pairs_of (s ++ t) ≡ pairs_of s + pairs_of t
pairs_of_then [] t p = omega arith
pairs_of_then (x ∷ []) t p = absurd p
pairs_of_then (x ∷ y ∷ more) t p = omega (arith, pairs_of_then more t p.2)

pub reel_of_raw_then : (s t : List ℕ) → Pairs s → reel_of_raw (s ++ t) ≡ reel_of_raw s ++ reel_of_raw t
reel_of_raw_then [] t p = refl
reel_of_raw_then (x ∷ []) t p = absurd p
reel_of_raw_then (x ∷ y ∷ more) t p = ap (λ (l : List ℕ). line_of x y ++ l) (reel_of_raw_then more t p.2) ∙ sym (append_assoc (line_of x y) (reel_of_raw more) (reel_of_raw t))

pub length_pairs : (s : List ℕ) → Pairs s → length s ≡ pairs_of s * 2
length_pairs [] p = refl
length_pairs (x ∷ []) p = absurd p
length_pairs (x ∷ y ∷ more) p = omega (arith, length_pairs more p.2)
