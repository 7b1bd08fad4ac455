-- A test of every number below a bound turned into the rule at each of them, and back; equal and blank lists by such a test. Assumes nothing.
use mathlib.Core.Path.{◌≡◌, refl, sym, subst, ap, ◌∙◌}
use mathlib.Core.Logic.{⊎_elim}
use mathlib.Core.List.{List, [], ◌∷◌}
use mathlib.Core.Bool.{Bool, true, ◌&&◌}
use Prim.Native.Nat.{ℕ, zero, suc, ◌+◌, ◌<◌, ◌≤◌}
use native.Mathlib.Nat.{not-suc-le-zero, le_of_suc-le-suc, eq-or-lt_of_le}
use native.Mathlib.Numerals.{add-one}
use native.Mathlib.Omega.{arith}
use lib.Dec.{eqb}
use lib.ListN.{length, get_or, take, drop, length-drop}
use lib.Seq.{ext_get_or, get_or-drop, take-suc}
use borrow.Author.Tests.{eqb-true, eq-eqb}
use Rattle.std.specs.List.{fold}
use Rattle.std.proofs.lemmas.List.Sums.{fold-append}
use Rattle.facts.specs.Every.{every, same_of, blank_of}
use Rattle.facts.proofs.Choice.{and_left, and_right, and_both}

pub every_at : (f : ℕ → Bool) (n : ℕ) → every f n ≡ true → (k : ℕ) → k < n → f k ≡ true
every_at f zero e k h = absurd (not-suc-le-zero h)
every_at f (suc n) e k h =
    ⊎_elim (λ q. subst (λ (m : ℕ). f m ≡ true) (sym q) (and_right (every f n) (f n) e)) (λ l. every_at f n (and_left (every f n) (f n) e) k l)
    (eq-or-lt_of_le (le_of_suc-le-suc h))

pub every_of : (f : ℕ → Bool) (n : ℕ) → ((k : ℕ) → k < n → f k ≡ true) → every f n ≡ true
every_of f zero h = refl
every_of f (suc n) h = and_both (every_of f n (λ k l. h k (omega arith))) (h n (omega arith))

-- one turn of a loop that joins the test of each number to a flag
pub every_more : (f : ℕ → Bool) (i : ℕ) {ok : Bool} → ok ≡ every f i → (ok && f i) ≡ every f (i + 1)
every_more f i e = ap (λ (t : Bool). t && f i) e ∙ ap (every f) (sym (add-one i))

-- the whole-table test: two functions that were found the same at each number below n are the same there
pub agree : (f g : ℕ → ℕ) (n : ℕ) → every (λ k. eqb (f k) (g k)) n ≡ true → (k : ℕ) → k < n → f k ≡ g k
agree f g n t k h = eqb-true (f k) (g k) (every_at (λ (m : ℕ). eqb (f m) (g m)) n t k h)

-- lists of n numbers: the test passes exactly where they are one list
pub same_equal : (a b : List ℕ) (n : ℕ) → length a ≡ n → length b ≡ n → same_of a b n ≡ true → a ≡ b
unfolding same_of
same_equal a b n p q t =
    ext_get_or 0 a b (omega arith)
    (λ i h. eqb-true (get_or a i 0) (get_or b i 0) (every_at (λ (k : ℕ). eqb (get_or a k 0) (get_or b k 0)) n t i (omega arith)))

pub equal_same : (a b : List ℕ) (n : ℕ) → a ≡ b → same_of a b n ≡ true
unfolding same_of
equal_same a b n e = every_of _ n (λ k h. eq-eqb (get_or a k 0) (get_or b k 0) (ap (λ (l : List ℕ). get_or l k 0) e))

pub blank_at : (d : List ℕ) (at n : ℕ) → blank_of d at n ≡ true → (k : ℕ) → k < n → get_or d (at + k) 0 ≡ 0
unfolding blank_of
blank_at d at n t k h = eqb-true (get_or d (at + k) 0) 0 (every_at (λ (i : ℕ). eqb (get_or d (at + i) 0) 0) n t k h)

pub blank_of_lem : (d : List ℕ) (at n : ℕ) → ((k : ℕ) → k < n → get_or d (at + k) 0 ≡ 0) → blank_of d at n ≡ true
unfolding blank_of
blank_of_lem d at n h = every_of _ n (λ k l. eq-eqb (get_or d (at + k) 0) 0 (h k l))

-- the test of each byte of a part, joined to a flag from the front on
pub blank_flag : (d : List ℕ) (at n : ℕ) → at + n ≤ length d → fold (λ blank byte. blank && eqb byte 0) true (take n (drop at d)) ≡ blank_of d at n
unfolding blank_of
blank_flag d at zero h = refl
blank_flag d at (suc n) h =
    let g : n < length (drop at d) = simp length-drop (omega arith) in
    ap (fold (λ (blank : Bool) (byte : ℕ). blank && eqb byte 0) true) (take-suc (drop at d) n 0 g)
    ∙ fold-append (λ (blank : Bool) (byte : ℕ). blank && eqb byte 0) true (take n (drop at d)) (get_or (drop at d) n 0 ∷ [])
    ∙ (λ i. blank_flag d at n (omega arith) i && eqb (get_or-drop at d n 0 i) 0)
