-- A lent tail that comes back written over at its front: the list is written over from where the tail starts. Assumes nothing.
use mathlib.Core.Path.{◌≡◌, refl, ap, sym, ◌∙◌}
use mathlib.Core.List.{List, [], ◌∷◌, ◌++◌}
use Prim.Native.Nat.{ℕ, zero, suc, ◌-◌, ◌≤◌}
use native.Mathlib.Omega.{arith}
use lib.ListN.{length, drop}
use borrow.Rule.Slice.PartMut.{put_mid}
use Rattle.std.proofs.lemmas.List.{take_rest}
use Rattle.facts.specs.Over.{over, part}
use Rattle.facts.proofs.Over.{length-over, length-part, over_all, over_then, part-over}

over_again : (d : List ℕ) (n : ℕ) (t : List ℕ) → over d n (over (drop n d) 0 t) ≡ over d n t
over_again [] n t = refl
over_again (x ∷ d) (suc n) t = ap (λ (l : List ℕ). x ∷ l) (over_again d n t)
over_again (x ∷ d) zero t = over_all (x ∷ d) (over (x ∷ d) zero t) (sym (length-over (x ∷ d) zero t))

pub over_tail : (d : List ℕ) (n : ℕ) (t : List ℕ) {y : List ℕ} → n ≤ length d → y ≡ over (part d n (length d - n)) 0 t → put_mid n (length d - n) d y ≡ over d n t
over_tail d n t {y} h e =
    part-over d n (length d - n) (length-over (part d n (length d - n)) 0 t ∙ length-part d n (length d - n) (omega arith)) (omega arith) e
    ∙ ap (λ (l : List ℕ). over d n (over l 0 t)) (take_rest d n) ∙ over_again d n t

-- a text written behind a text
pub tail_then : (d s t : List ℕ) (n : ℕ) {o y : List ℕ} → n ≡ length s → n ≤ length d → o ≡ over d 0 s → y ≡ over (part o n (length o - n)) 0 t
    → put_mid n (length o - n) o y ≡ over d 0 (s ++ t)
tail_then d s t n {o} {y} k h f e = over_then d 0 s t n (omega arith) f (over_tail o n t (omega (arith, ap length f, length-over d 0 s)) e)
