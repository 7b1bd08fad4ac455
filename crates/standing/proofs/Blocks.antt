-- Blocks of one size, one after the other: one is read, one is written, all from one on are blanked. Assumes nothing.
use mathlib.Core.Path.{◌≡◌, refl, ap, sym, subst, ◌∙◌}
use mathlib.Core.Logic.{⊎_elim}
use mathlib.Core.List.{List, [], ◌∷◌, ◌++◌}
use Prim.Native.Nat.{ℕ, zero, suc, ◌+◌, ◌-◌, ◌*◌, ◌<◌, ◌≤◌}
use native.Mathlib.Nat.{suc-mul, zero-mul, not-suc-le-zero, le_of_suc-le-suc, eq-or-lt_of_le, mul-le-mul_right, add-sub_of_le}
use native.Mathlib.Omega.{arith}
use lib.ListN.{length, get_or, take, drop, replicate, length-append, length-drop, length-replicate, get_or-replicate, replicate-append-replicate}
use lib.Seq.{take_all, take-add, take-append-le, drop-append-le, drop_at, ext_get_or}
use Rattle.facts.specs.Over.{over, part}
use Rattle.facts.proofs.Choice.{below_cases}
use Rattle.facts.proofs.Over.{length-over, take-over, drop-over, in_over, length-part, part_at}
use Rattle.standing.specs.Calls.{blank_from}
use Rattle.standing.specs.Bytes.{blocks}

-- a part before what is written over
part-over_before : (d : List ℕ) (at : ℕ) (s : List ℕ) (from n : ℕ) → from + n ≤ at → part (over d at s) from n ≡ part d from n
part-over_before d at s zero n h = take-over d at s n (omega arith)
part-over_before [] at s (suc from) n h = refl
part-over_before (x ∷ d) zero s (suc from) n h = absurd (omega arith)
part-over_before (x ∷ d) (suc at) s (suc from) n h = part-over_before d at s from n (omega arith)

-- a part of what is written
part-over_in : (d : List ℕ) (at : ℕ) (s : List ℕ) (j n : ℕ) → j + n ≤ length s → at + length s ≤ length d → part (over d at s) (at + j) n ≡ part s j n
part-over_in d at s j n h k =
    let l : length (part (over d at s) (at + j) n) ≡ n = length-part (over d at s) (at + j) n (simp length-over (omega arith)) in
    ext_get_or 0 (part (over d at s) (at + j) n) (part s j n) (l ∙ sym (length-part s j n h))
    (λ i b.
    let c : i < n = omega arith in
    let e : at + j + i ≡ at + (j + i) = omega arith in
    part_at (over d at s) (at + j) n i c ∙ ap (λ (p : ℕ). get_or (over d at s) p 0) e
    ∙ in_over d at s (j + i) (omega arith) (omega arith) ∙ sym (part_at s j n i c))

part_zeros : (z j n : ℕ) → j + n ≤ z → part (replicate z 0) j n ≡ replicate n 0
part_zeros z j n h =
    let l : length (part (replicate z 0) j n) ≡ n = length-part (replicate z 0) j n (simp length-replicate (omega arith)) in
    ext_get_or 0 (part (replicate z 0) j n) (replicate n 0) (l ∙ sym (length-replicate n 0))
    (λ i b.
    let c : i < n = omega arith in
    part_at (replicate z 0) j n i c ∙ get_or-replicate z (j + i) 0 0 (omega arith) ∙ sym (get_or-replicate n i 0 0 c))

pub blocks_same : (f g : ℕ → List ℕ) (n : ℕ) → ((i : ℕ) → i < n → f i ≡ g i) → blocks f n ≡ blocks g n
blocks_same f g zero h = refl
blocks_same f g (suc n) h =
    let e = blocks_same f g n (λ i b. h i (omega arith)) in
    let l = h n (omega arith) in
    λ j. e j ++ l j

pub zeros_blocks : (f : ℕ → List ℕ) (k n : ℕ) → ((i : ℕ) → f i ≡ replicate k 0) → replicate (n * k) 0 ≡ blocks f n
zeros_blocks f k zero h = ap (λ (m : ℕ). replicate {A = ℕ} m 0) (zero-mul k)
zeros_blocks f k (suc n) h =
    ap (λ (m : ℕ). replicate {A = ℕ} m 0) (suc-mul n k) ∙ sym (replicate-append-replicate (n * k) k 0)
    ∙ (λ j. zeros_blocks f k n h j ++ sym (h n) j)

-- a list whose parts are the blocks
take-blocks : (f : ℕ → List ℕ) (k n : ℕ) (t : List ℕ) → ((i : ℕ) → i < n → part t (i * k) k ≡ f i) → take (n * k) t ≡ blocks f n
take-blocks f k zero t h = ap (λ (m : ℕ). take m t) (zero-mul k)
take-blocks f k (suc n) t h =
    let e = take-blocks f k n t (λ i b. h i (omega arith)) in
    let l = h n (omega arith) in
    ap (λ (m : ℕ). take m t) (suc-mul n k) ∙ take-add (n * k) k t ∙ (λ j. e j ++ l j)

blocks_are : (f : ℕ → List ℕ) (k n : ℕ) (t : List ℕ) → length t ≡ n * k → ((i : ℕ) → i < n → part t (i * k) k ≡ f i) → t ≡ blocks f n
blocks_are f k n t l h = sym (take_all (n * k) t (omega arith)) ∙ take-blocks f k n t h

module _ (f : ℕ → List ℕ) (k : ℕ) (sized : (i : ℕ) → length (f i) ≡ k) where
  pub length-blocks : (n : ℕ) → length (blocks f n) ≡ n * k
  length-blocks zero = sym (zero-mul k)
  length-blocks (suc n) = omega (arith, length-append (blocks f n) (f n), length-blocks n, sized n, suc-mul n k)

  -- one block is read
  front_blocks : (n s : ℕ) → s < n → part (blocks f (suc n)) (s * k) k ≡ part (blocks f n) (s * k) k
  front_blocks n s h =
      let m : suc s * k ≤ n * k = mul-le-mul_right k h in
      let z : length (blocks f n) ≡ n * k = length-blocks n in
      ap (take k) (drop-append-le (s * k) (blocks f n) (f n) (omega (arith, suc-mul s k)))
      ∙ take-append-le k (drop (s * k) (blocks f n)) (f n) (omega (arith, length-drop (s * k) (blocks f n), suc-mul s k))

  last_blocks : (n : ℕ) → part (blocks f (suc n)) (n * k) k ≡ f n
  last_blocks n = ap (take k) (drop_at (blocks f n) (f n) (n * k) (length-blocks n)) ∙ take_all k (f n) (omega (arith, sized n))

  pub part-blocks : (n s : ℕ) → s < n → part (blocks f n) (s * k) k ≡ f s
  part-blocks zero s h = absurd (not-suc-le-zero h)
  part-blocks (suc n) s h =
      ⊎_elim (λ e. subst (λ (m : ℕ). part (blocks f (suc n)) (m * k) k ≡ f m) (sym e) (last_blocks n)) (λ l. front_blocks n s l ∙ part-blocks n s l)
      (eq-or-lt_of_le (le_of_suc-le-suc h))

  -- the blocks before what is written over stay
  before_blocks : (n s : ℕ) (r : List ℕ) (i : ℕ) → i < n → i < s → part (over (blocks f n) (s * k) r) (i * k) k ≡ f i
  before_blocks n s r i h b =
      let m : suc i * k ≤ s * k = mul-le-mul_right k b in
      part-over_before (blocks f n) (s * k) r (i * k) k (omega (arith, suc-mul i k)) ∙ part-blocks n i h

  -- one block is written
  pub over-blocks : (g : ℕ → List ℕ) (n s : ℕ) (r : List ℕ) → length r ≡ k → ((i : ℕ) → (i ≡ s → ⊥) → f i ≡ g i) → r ≡ g s
      → over (blocks f n) (s * k) r ≡ blocks g n
  over-blocks g n s r z other this = blocks_are g k n t (length-over (blocks f n) (s * k) r ∙ length-blocks n) at
    where
      t : List ℕ
      t = over (blocks f n) (s * k) r

      behind : (i : ℕ) → i < n → s < i → part t (i * k) k ≡ g i
      behind i h b =
          let m : suc s * k ≤ i * k = mul-le-mul_right k b in
          ap (take k) (drop-over (blocks f n) (s * k) r (i * k) (omega (arith, suc-mul s k))) ∙ part-blocks n i h ∙ other i (λ e. omega arith)

      same : (i : ℕ) → i < n → s ≡ i → part t (i * k) k ≡ g i
      same i h e =
          let m : suc i * k ≤ n * k = mul-le-mul_right k h in
          let b : s * k + length r ≤ length (blocks f n) = omega (arith, length-blocks n, suc-mul i k, ap (λ (j : ℕ). j * k) e) in
          let p : i * k ≡ s * k + 0 = omega (arith, ap (λ (j : ℕ). j * k) e) in
          ap (λ (j : ℕ). part t j k) p ∙ part-over_in (blocks f n) (s * k) r 0 k (omega arith) b ∙ take_all k r (omega arith) ∙ this ∙ ap g e

      at : (i : ℕ) → i < n → part t (i * k) k ≡ g i
      at i h =
          below_cases i s (λ b. before_blocks n s r i h b ∙ other i (λ e. omega arith))
          (λ b. ⊎_elim (same i h) (behind i h) (eq-or-lt_of_le b))

  -- all blocks from one on are blanked
  pub blank-blocks : (g : ℕ → List ℕ) (n s : ℕ) → ((i : ℕ) → i < s → f i ≡ g i) → ((i : ℕ) → s ≤ i → g i ≡ replicate k 0)
      → blank_from (blocks f n) (s * k) ≡ blocks g n
  blank-blocks g n s low high = blocks_are g k n t (length-over (blocks f n) (s * k) z ∙ length-blocks n) at
    where
      z : List ℕ
      z = replicate (length (blocks f n) - s * k) 0

      t : List ℕ
      t = over (blocks f n) (s * k) z

      bare : (i : ℕ) → i < n → s ≤ i → part t (i * k) k ≡ g i
      bare i h b =
          let m : suc i * k ≤ n * k = mul-le-mul_right k h in
          let c : s * k ≤ i * k = mul-le-mul_right k b in
          let l : length (blocks f n) ≡ n * k = length-blocks n in
          let y : length z ≡ length (blocks f n) - s * k = length-replicate (length (blocks f n) - s * k) 0 in
          ap (λ (j : ℕ). part t j k) (sym (add-sub_of_le c))
          ∙ part-over_in (blocks f n) (s * k) z (i * k - s * k) k (omega (arith, suc-mul i k)) (omega (arith, suc-mul i k))
          ∙ part_zeros (length (blocks f n) - s * k) (i * k - s * k) k (omega (arith, suc-mul i k)) ∙ sym (high i b)

      at : (i : ℕ) → i < n → part t (i * k) k ≡ g i
      at i h = below_cases i s (λ b. before_blocks n s z i h b ∙ low i b) (bare i h)
