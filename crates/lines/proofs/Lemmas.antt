-- What the loop over codes prints turn by turn, and the line of one row. Assumes nothing.
use mathlib.Core.Path.{◌≡◌, ap, sym, ◌∙◌}
use mathlib.Core.List.{List, [], ◌∷◌, ◌++◌, append_assoc}
use Prim.Native.Nat.{ℕ, suc, ◌+◌, ◌-◌, ◌*◌, ◌/◌, ◌%◌, ◌≤◌}
use native.Mathlib.Omega.{arith}
use lib.ListN.{length, set}
use borrow.Author.Tests.{eq-eqb, ne_eqb}
use borrow.Rule.Slice.PartMut.{put_mid}
use Rattle.facts.specs.Over.{over, part}
use Rattle.facts.proofs.Over.{over_two, over_then}
use Rattle.wire.specs.Line.{hex_of}
use Rattle.cell.specs.Place.{row_number, row_at}
use Rattle.page.specs.Page.{displayed}
use Rattle.lines.specs.Span.{code_at, lead_of, end_of}
use Rattle.lines.specs.Line.{head_of, codes_of, Run, line_of, row_line_of, Put}
use Rattle.lines.proofs.Laws.{put_nothing, put_then, put_byte, put_as, length_codes_of, length_head_of}

-- one turn of the loop that prints codes
pub codes_more : (d s : List ℕ) (at from k n : ℕ) {out : List ℕ} {a b : ℕ} → from ≤ k → n ≡ (k - from) * 2
    → out ≡ over d 0 (codes_of s at from (k - from)) → a ≡ hex_of (code_at s at k / 16) → b ≡ hex_of (code_at s at k % 16)
    → set (set out n a) (n + 1) b ≡ over d 0 (codes_of s at from (k + 1 - from))
unfolding codes_of
codes_more d s at from k n {out} {a} {b} h e f p q =
    let here : k ≡ from + (k - from) = omega arith in
    let more : suc (k - from) ≡ k + 1 - from = omega arith in
    over_then d 0 (codes_of s at from (k - from)) _ n (omega (arith, length_codes_of s at from (k - from))) f
    (over_two out n a b ∙ (λ i. over out n ((p ∙ ap (λ (x : ℕ). hex_of (code_at s at x / 16)) here) i ∷ (q ∙ ap (λ (x : ℕ). hex_of (code_at s at x % 16)) here) i ∷ [])))
    ∙ ap (λ (x : ℕ). over d 0 (codes_of s at from x)) more

-- a row with no non-empty cell prints nothing
pub row_nothing : (d : List ℕ) (r : Run) (row : ℕ) → end_of r.screen (row_at displayed (row_number row)) 32 ≡ 0 → Put d (row_line_of r row) 80 d 0
unfolding row_line_of
row_nothing d r row e = put_nothing d 80 (simp (eq-eqb _ _ e))

-- head, codes and line feed are the row's line
module _ (d : List ℕ) (r : Run) (row lead end : ℕ) where
  abbrev at : ℕ
  at = row_at displayed (row_number row)

  abbrev head : List ℕ
  head = head_of r.from r.to row

  abbrev codes : List ℕ
  codes = codes_of r.screen at lead (end - lead)

  line_text : lead ≡ lead_of r.screen at 32 → end ≡ end_of r.screen at 32 → (end ≡ 0 → ⊥) → (head ++ codes) ++ (0x0a ∷ []) ≡ row_line_of r row
  unfolding row_line_of line_of
  line_text e f some =
      append_assoc head codes (0x0a ∷ [])
      ∙ (λ i. head ++ (codes_of r.screen at (e i) (f i - e i) ++ (0x0a ∷ []))) ∙ simp (ne_eqb _ 0 (λ z. some (f ∙ z)))

  pub row_line : {h c : List ℕ} {n : ℕ} → lead ≡ lead_of r.screen at 32 → end ≡ end_of r.screen at 32 → (end ≡ 0 → ⊥) → 80 ≤ length d → h ≡ over d 0 head
      → Put (part h 15 (length h - 15)) codes 64 c n → Put d (row_line_of r row) 80 (set (put_mid 15 (length h - 15) h c) (15 + n) 0x0a) (15 + n + 1)
  row_line {h} e f some long hs p =
      let first : Put d head 15 h 15 = record { bytes = hs; next = sym (length_head_of r.from r.to row); room = omega arith } in
      put_as (line_text e f some) (omega arith) (put_byte d (head ++ codes) 0x0a (put_then d head codes first (omega arith) p))
