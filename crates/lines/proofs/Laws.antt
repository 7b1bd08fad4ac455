-- The laws of the register's lines that callers cite: printing one behind the other, how long lines are, and that an empty screen prints none. Assumes nothing.
use mathlib.Core.Path.{◌≡◌, refl, ap, sym, ◌∙◌}
use mathlib.Core.Bool.{true}
use mathlib.Core.List.{List, [], ◌∷◌, ◌++◌}
use Prim.Native.Nat.{ℕ, zero, suc, ◌+◌, ◌-◌, ◌*◌, ◌<◌, ◌≤◌}
use native.Mathlib.Nat.{zero-add}
use native.Mathlib.Omega.{arith}
use lib.ListN.{length, get_or, set, length-append}
use borrow.Author.Tests.{eq-eqb}
use borrow.Rule.Slice.PartMut.{put_mid}
use Rattle.facts.specs.Over.{over, part}
use Rattle.facts.proofs.Over.{over_nil, over_snoc}
use Rattle.facts.proofs.Tail.{tail_then}
use Rattle.cell.specs.Place.{row_number, row_at}
use Rattle.page.specs.Page.{displayed, is_empty_of}
use Rattle.page.proofs.Laws.{is_empty_of_at}
use Rattle.lines.specs.Line.{codes_of, frame_of, row_of, head_of, Run, row_line_of, top_lines_of, lines_of, refused_of, Put}
use Rattle.lines.proofs.Printed.{end_of_none}

-- where there is nothing to print
pub put_nothing : (d : List ℕ) (most : ℕ) {text : List ℕ} → text ≡ [] → Put d text most d 0
put_nothing d most e = record { bytes = sym (over_nil d 0) ∙ ap (over d 0) (sym e); next = omega (arith, ap length e); room = omega arith }

-- A text written behind a text is one text.
pub put_then : (d s t : List ℕ) {o left : List ℕ} {k m a b : ℕ} → Put d s a o k → k ≤ length d → Put (part o k (length o - k)) t b left m
    → Put d (s ++ t) (a + b) (put_mid k (length o - k) o left) (k + m)
put_then d s t p h q =
    let next = p.next in
    let last = q.next in
    let small = p.room in
    let most = q.room in
    record { bytes = tail_then d s t _ next h p.bytes q.bytes; next = omega (arith, length-append s t); room = omega arith }

-- one byte behind a text
pub put_byte : (d s : List ℕ) (v : ℕ) {o : List ℕ} {k a : ℕ} → Put d s a o k → Put d (s ++ (v ∷ [])) (a + 1) (set o k v) (k + 1)
put_byte d s v {k = k} p =
    let next = p.next in
    let small = p.room in
    record {
      bytes = ap (λ (o : List ℕ). set o k v) p.bytes ∙ rw zero-add at (over_snoc d 0 s k v (sym next));
      next = omega (arith, length-append s (v ∷ []));
      room = omega arith;
    }

-- another name for what was printed, and more room
pub put_as : {d left text more : List ℕ} {n a b : ℕ} → text ≡ more → a ≤ b → Put d text a left n → Put d more b left n
put_as {d} e h p =
    let small = p.room in
    record { bytes = p.bytes ∙ ap (over d 0) e; next = p.next ∙ ap length e; room = omega arith }

-- How long lines are.

pub length_codes_of : (s : List ℕ) (at from n : ℕ) → length (codes_of s at from n) ≡ n * 2
unfolding codes_of
length_codes_of s at from zero = refl
length_codes_of s at from (suc n) = simp length-append (omega (arith, length_codes_of s at from n))

pub length_head_of : (from to row : ℕ) → length (head_of from to row) ≡ 15
unfolding head_of frame_of row_of
length_head_of from to row = refl

pub length-refused_of : (frame number : ℕ) → length (refused_of frame number) ≡ 16
unfolding refused_of frame_of
length-refused_of frame number = refl

-- Rows that are all empty print nothing, and so does a screen.

module _ (r : Run) where
  row_none : (n : ℕ) → ((i : ℕ) → i < (n + 1) * 64 → get_or r.screen i 0 ≡ 0) → row_line_of r (n + 1) ≡ []
  unfolding row_line_of
  row_none n empty =
      let at = row_at displayed (row_number (n + 1)) in
      let e = end_of_none r.screen at 32 (λ k h. empty (at + k * 2) (omega arith)) in
      simp (eq-eqb _ _ e)

  pub top_lines_of_none : (n : ℕ) → ((i : ℕ) → i < n * 64 → get_or r.screen i 0 ≡ 0) → top_lines_of r n ≡ []
  unfolding top_lines_of
  top_lines_of_none zero empty = refl
  top_lines_of_none (suc n) empty = λ i. top_lines_of_none n (λ k h. empty k (omega arith)) i ++ row_none n (λ k h. empty k (omega arith)) i

  pub lines_of_empty : is_empty_of r.screen displayed ≡ true → lines_of r ≡ []
  lines_of_empty e =
      top_lines_of_none 15 (λ i h. ap (λ (k : ℕ). get_or r.screen k 0) (sym (zero-add i)) ∙ is_empty_of_at r.screen displayed i e (omega arith))
