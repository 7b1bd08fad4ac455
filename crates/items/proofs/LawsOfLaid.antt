-- Texts laid one behind the other are one text, each with the room that the whole has. Assumes nothing.
use mathlib.Core.Path.{◌≡◌, refl, sym, ap, ◌∙◌}
use mathlib.Core.List.{List, [], ◌++◌}
use Prim.Native.Nat.{ℕ, ◌+◌, ◌-◌, ◌≤◌}
use native.Mathlib.Omega.{arith}
use lib.ListN.{length, length-append}
use borrow.Rule.Slice.PartMut.{put_mid}
use Rattle.facts.specs.Over.{over, part}
use Rattle.facts.proofs.Over.{over_nil, length-over, length-part, over_then}
use Rattle.facts.proofs.Tail.{over_tail, tail_then}
use Rattle.items.specs.Laid.{Laid}

pub laid_none : (out : List ℕ) {text : List ℕ} → text ≡ [] → Laid out text out 0
laid_none out e = record { bytes = sym (over_nil out 0) ∙ ap (over out 0) (sym e); next = omega (arith, ap length e); room = omega arith }

pub laid_size : {out text left : List ℕ} {r : ℕ} → Laid out text left r → length left ≡ length out
laid_size {out} {text = text} l = ap length l.bytes ∙ length-over out 0 text

-- what a buffer has behind its front
abbrev pub tail_of : List ℕ → ℕ → List ℕ
tail_of o n = part o n (length o - n)

pub tail_room : (o : List ℕ) (n k : ℕ) → n + k ≤ length o → k ≤ length (tail_of o n)
tail_room o n k h = omega (arith, length-part o n (length o - n) (omega arith))

-- Where there is room for the whole, there is room for its front, and for the rest behind it.

module _ (out s t : List ℕ) (room : length (s ++ t) ≤ length out) where
  pub room_front : length s ≤ length out
  room_front = omega (arith, length-append s t)

  module _ {o : List ℕ} {k : ℕ} (l : Laid out s o k) where
    pub room_rest : length t ≤ length (tail_of o k)
    room_rest = let next = l.next in tail_room o k (length t) (omega (arith, length-append s t, laid_size l))

    pub laid_then : {left : List ℕ} {m : ℕ} → Laid (tail_of o k) t left m → Laid out (s ++ t) (put_mid k (length o - k) o left) (k + m)
    laid_then {left} {m} q =
        let next = l.next in
        let last = q.next in
        let bytes : put_mid k (length o - k) o left ≡ over out 0 (s ++ t) = tail_then out s t k next (omega (arith, room_front)) l.bytes q.bytes in
        record { bytes = bytes; next = omega (arith, length-append s t); room = omega (arith, length-append s t, ap length bytes, length-over out 0 (s ++ t)) }

-- In a loop: what is still to be laid from m on makes the whole from n on.
pub record Rest (out : List ℕ) (n : ℕ) (whole now : List ℕ) (m : ℕ) (left : List ℕ) : Type 0 where
  pub size : length now ≡ length out
  pub bytes : over now m left ≡ over out n whole
  pub next : m + length left ≡ n + length whole

module _ (out : List ℕ) (n : ℕ) (whole : List ℕ) where
  pub rest_start : Rest out n whole out n whole
  rest_start = record { size = refl; bytes = refl; next = refl }

  pub rest_over : {o left : List ℕ} {m : ℕ} → Rest out n whole o m left → left ≡ [] → o ≡ over out n whole
  rest_over {o} {left} {m} r e = sym (over_nil o m) ∙ ap (over o m) (sym e) ∙ r.bytes

  pub rest_turn : {o left p : List ℕ} {m k : ℕ} (s t : List ℕ) → Rest out n whole o m left → left ≡ s ++ t → k ≡ m + length s → p ≡ over o m s
      → Rest out n whole p k t
  rest_turn {o} {left} {p} {m} {k} s t r e f b =
      let next = r.next in
      record {
        size = ap length b ∙ length-over o m s ∙ r.size;
        bytes = over_then o m s t k f b refl ∙ ap (over o m) (sym e) ∙ r.bytes;
        next = omega (arith, ap length e ∙ length-append s t);
      }

-- the same where each text is laid at the front of what is behind the others
module _ (out whole : List ℕ) {o left : List ℕ} {m : ℕ} (room : length whole ≤ length out) (r : Rest out 0 whole o m left) where
  pub rest_stop : left ≡ [] → Laid out whole o m
  rest_stop e =
      let next = r.next in
      let size = r.size in
      record { bytes = rest_over out 0 whole r e; next = omega (arith, ap length e); room = omega arith }

  module _ (s t : List ℕ) (e : left ≡ s ++ t) where
    pub rest_room : length s ≤ length (tail_of o m)
    rest_room =
        let next = r.next in
        let size = r.size in
        tail_room o m (length s) (omega (arith, ap length e ∙ length-append s t))

    pub rest_laid : {y : List ℕ} {j : ℕ} → Laid (tail_of o m) s y j → Rest out 0 whole (put_mid m (length o - m) o y) (m + j) t
    rest_laid l =
        let last = l.next in
        let next = r.next in
        let size = r.size in
        rest_turn out 0 whole s t r e (omega arith) (over_tail o m s (omega arith) l.bytes)
