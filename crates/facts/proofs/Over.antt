-- A list written over: its length, what lies inside and outside, one store more, a lent part that comes back, a text behind a text. Assumes nothing.
use mathlib.Core.Path.{◌≡◌, refl, ap, sym, ◌∙◌}
use mathlib.Core.List.{List, [], ◌∷◌, ◌++◌, append_assoc}
use Prim.Native.Nat.{ℕ, zero, suc, ◌+◌, ◌-◌, ◌<◌, ◌≤◌}
use native.Mathlib.Nat.{add-sub_cancel_left, add-zero, zero-add, suc-add, not-suc-le-zero, le_of_suc-le-suc, suc-ne-zero}
use native.Mathlib.Omega.{arith}
use lib.ListN.{length, get_or, set, take, drop, length-drop, take-append-drop}
use lib.Seq.{get_or-drop, get_or-take, length-take-le}
use borrow.Rule.Slice.PartMut.{put_mid}
use Rattle.std.specs.List.{copy_within}
use Rattle.std.proofs.lemmas.List.{drop-drop}
use Rattle.facts.specs.Over.{over, part, exchange_of}

pub length-over : (d : List ℕ) (at : ℕ) (s : List ℕ) → length (over d at s) ≡ length d
length-over [] at s = refl
length-over (x ∷ d) (suc at) s = ap suc (length-over d at s)
length-over (x ∷ d) zero [] = refl
length-over (x ∷ d) zero (v ∷ s) = ap suc (length-over d zero s)

pub over_nil : (d : List ℕ) (at : ℕ) → over d at [] ≡ d
over_nil [] at = refl
over_nil (x ∷ d) (suc at) = ap (λ (l : List ℕ). x ∷ l) (over_nil d at)
over_nil (x ∷ d) zero = refl

-- what lies before and behind stays
pub before_over : (d : List ℕ) (at : ℕ) (s : List ℕ) (k : ℕ) → k < at → get_or (over d at s) k 0 ≡ get_or d k 0
before_over [] at s k h = refl
before_over (x ∷ d) zero s k h = absurd (not-suc-le-zero h)
before_over (x ∷ d) (suc at) s zero h = refl
before_over (x ∷ d) (suc at) s (suc k) h = before_over d at s k (le_of_suc-le-suc h)

pub behind_over : (d : List ℕ) (at : ℕ) (s : List ℕ) (k : ℕ) → at + length s ≤ k → get_or (over d at s) k 0 ≡ get_or d k 0
behind_over [] at s k h = refl
behind_over (x ∷ d) (suc at) s zero h = absurd (not-suc-le-zero (rw suc-add at h))
behind_over (x ∷ d) (suc at) s (suc k) h = behind_over d at s k (omega arith)
behind_over (x ∷ d) zero [] k h = refl
behind_over (x ∷ d) zero (v ∷ s) zero h = absurd (not-suc-le-zero (rw zero-add at h))
behind_over (x ∷ d) zero (v ∷ s) (suc k) h = behind_over d zero s k (omega arith)

-- the same of whole fronts and tails: a half that is not written to stays as it is
pub take-over : (d : List ℕ) (at : ℕ) (s : List ℕ) (n : ℕ) → n ≤ at → take n (over d at s) ≡ take n d
take-over d at s zero h = refl
take-over [] at s (suc n) h = refl
take-over (x ∷ d) zero s (suc n) h = absurd (not-suc-le-zero h)
take-over (x ∷ d) (suc at) s (suc n) h = ap (λ (l : List ℕ). x ∷ l) (take-over d at s n (le_of_suc-le-suc h))

pub drop-over : (d : List ℕ) (at : ℕ) (s : List ℕ) (n : ℕ) → at + length s ≤ n → drop n (over d at s) ≡ drop n d
drop-over [] at s n h = refl
drop-over (x ∷ d) (suc at) s zero h = absurd (not-suc-le-zero (rw suc-add at h))
drop-over (x ∷ d) (suc at) s (suc n) h = drop-over d at s n (omega arith)
drop-over (x ∷ d) zero [] n h = refl
drop-over (x ∷ d) zero (v ∷ s) zero h = absurd (not-suc-le-zero (rw zero-add at h))
drop-over (x ∷ d) zero (v ∷ s) (suc n) h = drop-over d zero s n (omega arith)

-- what lies inside is s
pub in_over : (d : List ℕ) (at : ℕ) (s : List ℕ) (j : ℕ) → at + j < length d → j < length s → get_or (over d at s) (at + j) 0 ≡ get_or s j 0
in_over [] at s j h k = absurd (not-suc-le-zero h)
in_over (x ∷ d) (suc at) s j h k = rw suc-add (in_over d at s j (omega arith) k)
in_over (x ∷ d) zero [] j h k = absurd (not-suc-le-zero k)
in_over (x ∷ d) zero (v ∷ s) zero h k = refl
in_over (x ∷ d) zero (v ∷ s) (suc j) h k = rw (zero-add) (rw zero-add at (in_over d zero s j (omega arith) (le_of_suc-le-suc k)))

-- one store right behind
pub over_snoc : (d : List ℕ) (at : ℕ) (s : List ℕ) (n v : ℕ) → length s ≡ n → set (over d at s) (at + n) v ≡ over d at (s ++ (v ∷ []))
over_snoc [] at s n v e = refl
over_snoc (x ∷ d) (suc at) s n v e = rw suc-add (ap (λ (l : List ℕ). x ∷ l) (over_snoc d at s n v e))
over_snoc (x ∷ d) zero [] n v e = rw (zero-add, ← e) (ap (λ (l : List ℕ). v ∷ l) (sym (over_nil d zero)))
over_snoc (x ∷ d) zero (w ∷ s) n v e = rw (zero-add, ← e) (ap (λ (l : List ℕ). w ∷ l) (rw zero-add at (over_snoc d zero s (length s) v refl)))

-- a store before
pub set-over : (d : List ℕ) (at : ℕ) (s : List ℕ) (k v : ℕ) → k < at → set (over d at s) k v ≡ over (set d k v) at s
set-over [] at s k v h = refl
set-over (x ∷ d) zero s k v h = absurd (not-suc-le-zero h)
set-over (x ∷ d) (suc at) s zero v h = refl
set-over (x ∷ d) (suc at) s (suc k) v h = ap (λ (l : List ℕ). x ∷ l) (set-over d at s k v (le_of_suc-le-suc h))

-- two stores side by side
pub over_two : (d : List ℕ) (at v w : ℕ) → set (set d at v) (at + 1) w ≡ over d at (v ∷ w ∷ [])
over_two d at v w =
    let one : set d at v ≡ over d at (v ∷ []) = (λ i. set (sym (over_nil d at) i) (sym (add-zero at) i) v) ∙ over_snoc d at [] 0 v refl in
    ap (λ (l : List ℕ). set l (at + 1) w) one ∙ over_snoc d at (v ∷ []) 1 w refl

-- a part that was lent and comes back
mid_over : (d : List ℕ) (a : ℕ) (y : List ℕ) → a + length y ≤ length d → put_mid a (length y) d y ≡ over d a y
mid_over [] zero [] h = refl
mid_over [] zero (v ∷ y) h = absurd (not-suc-le-zero (rw zero-add at h))
mid_over [] (suc a) y h = absurd (not-suc-le-zero (rw suc-add at h))
mid_over (x ∷ d) (suc a) y h = ap (λ (l : List ℕ). x ∷ l) (mid_over d a y (omega arith))
mid_over (x ∷ d) zero [] h = refl
mid_over (x ∷ d) zero (v ∷ y) h = ap (λ (l : List ℕ). v ∷ l) (mid_over d zero y (omega arith))

pub part-over : (d : List ℕ) (a k : ℕ) {y z : List ℕ} → length z ≡ k → a + k ≤ length d → y ≡ z → put_mid a k d y ≡ over d a z
part-over d a k {y} {z} e h f = (λ i. put_mid a (sym e i) d (f i)) ∙ mid_over d a z (omega arith)

-- all of it
pub over_all : (d s : List ℕ) → length d ≡ length s → over d 0 s ≡ s
over_all [] [] e = refl
over_all [] (v ∷ s) e = absurd (suc-ne-zero (length s) (sym e))
over_all (x ∷ d) [] e = absurd (suc-ne-zero (length d) e)
over_all (x ∷ d) (v ∷ s) e = ap (λ (l : List ℕ). v ∷ l) (over_all d s (omega arith))

pub length-part : (d : List ℕ) (from n : ℕ) → from + n ≤ length d → length (part d from n) ≡ n
length-part d from n h = length-take-le n (drop from d) (simp length-drop (omega arith))

-- three stores side by side
pub over-three : (d : List ℕ) (at u v w : ℕ) → set (set (set d at u) (at + 1) v) (at + 2) w ≡ over d at (u ∷ v ∷ w ∷ [])
over-three d at u v w = ap (λ (l : List ℕ). set l (at + 2) w) (over_two d at u v) ∙ over_snoc d at (u ∷ v ∷ []) 2 w refl

-- a list written in two parts, the tail first: the record in place
pub over_both : (d h t : List ℕ) → length d ≡ length h + length t → over (over d (length h) t) 0 h ≡ h ++ t
over_both d [] t e = over_nil (over d 0 t) 0 ∙ over_all d t (omega arith)
over_both [] (v ∷ h) t e = absurd (suc-ne-zero (length h + length t) (sym (e ∙ suc-add (length h) (length t))))
over_both (x ∷ d) (v ∷ h) t e = ap (λ (l : List ℕ). v ∷ l) (over_both d h t (omega arith))

-- the front up to the end of what was written
pub front_over : (d : List ℕ) (at : ℕ) (s : List ℕ) → at + length s ≤ length d → take (at + length s) (over d at s) ≡ take at d ++ s
front_over [] zero [] h = refl
front_over [] zero (v ∷ s) h = absurd (not-suc-le-zero (rw zero-add at h))
front_over [] (suc at) s h = absurd (not-suc-le-zero (rw suc-add at h))
front_over (x ∷ d) (suc at) s h = rw suc-add (ap (λ (l : List ℕ). x ∷ l) (front_over d at s (omega arith)))
front_over (x ∷ d) zero [] h = refl
front_over (x ∷ d) zero (v ∷ s) h = rw zero-add (ap (λ (l : List ℕ). v ∷ l) (rw zero-add at (front_over d zero s (omega arith))))

pub part_at : (d : List ℕ) (from n j : ℕ) → j < n → get_or (part d from n) j 0 ≡ get_or d (from + j) 0
part_at d from n j h = get_or-take n (drop from d) j 0 h ∙ get_or-drop from d j 0

-- the front that was written, read back
pub take-over_front : (z s : List ℕ) (n : ℕ) {x : List ℕ} → length s ≡ n → n ≤ length z → x ≡ over z 0 s → take n x ≡ s
take-over_front z s n {x} e h f =
    let k : n ≡ 0 + length s = omega arith in
    (λ i. take (k i) (f i)) ∙ front_over z 0 s (omega arith)

-- and what stands behind it
pub over_front : (d s : List ℕ) (n : ℕ) → length s ≡ n → n ≤ length d → over d 0 s ≡ s ++ drop n d
over_front d s n e h =
    sym (take-append-drop n (over d 0 s)) ∙ (λ i. take-over_front d s n e h refl i ++ drop-over d 0 s n (omega arith) i)

-- A text written behind a text is one text.

over_join : (d : List ℕ) (at : ℕ) (s t : List ℕ) → over (over d at s) (at + length s) t ≡ over d at (s ++ t)
over_join [] at s t = refl
over_join (x ∷ d) (suc at) s t = rw suc-add (ap (λ (l : List ℕ). x ∷ l) (over_join d at s t))
over_join (x ∷ d) zero [] t = refl
over_join (x ∷ d) zero (v ∷ s) t = rw zero-add (ap (λ (l : List ℕ). v ∷ l) (rw zero-add at (over_join d zero s t)))

pub over_then : (d : List ℕ) (n : ℕ) (s t : List ℕ) (k : ℕ) {o p : List ℕ} → k ≡ n + length s → o ≡ over d n s → p ≡ over o k t → p ≡ over d n (s ++ t)
over_then d n s t k e f g = g ∙ (λ i. over (f i) (e i) t) ∙ over_join d n s t

-- A front and what lies behind it, each written where the other stood.
pub exchange_halves : (d : List ℕ) (n : ℕ) → n + n ≤ length d → part d n n ++ (part d 0 n ++ drop n (drop n d)) ≡ exchange_of d n
exchange_halves d n size =
    let first = over d 0 (part d n n) in
    let front : take n first ≡ part d n n = take-over_front d (part d n n) n (length-part d n n size) (omega arith) refl in
    let behind : drop n first ≡ drop n d = drop-over d 0 (part d n n) n (omega (arith, length-part d n n size)) in
    (λ i. sym front i ++ (part d 0 n ++ drop n (sym behind i)))
    ∙ part-over first n n (length-part d 0 n (omega arith)) (omega (arith, length-over d 0 (part d n n))) refl

-- the same of bytes that the library copies within the whole
pub over_within : (d : List ℕ) (to from n : ℕ) → to ≤ from → from + n ≤ length d → copy_within d from (from + n) to ≡ over d to (part d from n)
over_within d to from n low high =
    rw (add-sub_cancel_left from, ← drop-drop n to d, append_assoc (take to d) (take n (drop from d)) (drop n (drop to d)))
    (part-over d to n (length-part d from n high) (omega arith) refl)

-- the same of a part lent by its two ends
pub over_lent : (d : List ℕ) (at n : ℕ) (y : List ℕ) → length y ≡ n → at + n ≤ length d → put_mid at ((at + n) - at) d y ≡ over d at y
over_lent d at n y e h = part-over d at ((at + n) - at) (e ∙ sym (add-sub_cancel_left at n)) (rw add-sub_cancel_left h) refl
