-- A pair of text while none is expected is two codes typed; with the style's cursor in hand, it moves that cursor and writes its memory's cells.
-- Assumes nothing.
use Rattle.std.specs.Prelude.{Option, Some, None}
use mathlib.Core.Path.{◌≡◌, refl, ap, sym, ◌∙◌}
use mathlib.Core.Bool.{Bool, true, false, ◌&&◌}
use mathlib.Core.List.{List}
use Prim.Native.Nat.{ℕ, ◌+◌, ◌≤◌}
use native.Mathlib.Nat.{add-zero}
use native.Mathlib.Omega.{arith}
use lib.Dec.{eqb, leb, ltb}
use borrow.Author.Tests.{ltb-true, leb-true, lt-ltb, le-ltb, eqb-true}
use Rattle.facts.specs.Choice.{pick}
use Rattle.facts.proofs.Choice.{and_left, and_right, or_cases}
use Rattle.wire.specs.Byte.{is_good, low_seven}
use Rattle.cell.specs.declared.Cursor.{Cursor}
use Rattle.state.specs.declared.State.{State}
use Rattle.state.specs.State.{Captions, Desk, desk, state}
use Rattle.state.specs.Style.{cursor_of, memory_of, with_cursor}
use Rattle.state.proofs.Laws.{with_cursor_own, is_ready-with_cursor}
use Rattle.typing.specs.Typing.{write_any_of, passed_of, put_of}
use Rattle.typing.proofs.Laws.{write_any_of_at}
use Rattle.decode.specs.Pair.{with_captions, cleared_of, is_open, text_code_of, type_any_of, rule_one_of, rule_two_of, rule_three_of, rule_four_of, pair_of}
use Rattle.decode.specs.Step.{counted, taken_of}
use Rattle.text.specs.Typed.{is_none_expected, is_text, typed_of}
use Rattle.decode.proofs.Laws.{is_open_live, none_then_text, code_then_text, open_both, shut_both}

-- rules 1, 2 and 4: the first byte is text, and so is the second
pub text_pair : (d : Desk) (x y : ℕ) → is_text x ≡ true → d.state.first ≡ 0 → pair_of d x y ≡ type_any_of (type_any_of (cleared_of d) (text_code_of x)) (text_code_of y)
unfolding is_text pair_of rule_one_of rule_two_of rule_four_of text_code_of
text_pair d x y t e = go (is_good x)
  where
    go : (g : Bool) → pick g (pick (ltb (low_seven x) 0x10) (rule_two_of d y) (pick (ltb (low_seven x) 0x20) (rule_three_of d (low_seven x) y) (rule_four_of d (low_seven x) y))) (rule_one_of d y)
        ≡ type_any_of (type_any_of (cleared_of d) (pick g (pick (ltb (low_seven x) 0x20) None (Some (low_seven x))) (Some 0x7f))) (text_code_of y)
    go true =
        or_cases (ltb (low_seven x) 0x10) t
        (λ u. let low = ltb-true (low_seven x) 0x10 u in rw (u, lt-ltb (low_seven x) 0x20 (omega arith)) (sym (none_then_text (cleared_of d) y)))
        (λ u.
        let high = leb-true 0x20 (low_seven x) u in
        rw (le-ltb (low_seven x) 0x10 (omega arith), le-ltb (low_seven x) 0x20 high) (sym (code_then_text (cleared_of d) (low_seven x) y)))
    go false = rw (ap (λ (k : ℕ). leb 1 k) e) (sym (code_then_text (cleared_of d) 0x7f y))

-- behind none of them, and where no pair is expected, it is the state itself
pub typed_of_none : (s : State) → is_none_expected s ≡ true → typed_of s (cursor_of s.mode) 0 ≡ s
typed_of_none s t =
    let first = eqb-true s.first 0 (and_left (eqb s.first 0) _ t) in
    let second = eqb-true s.second 0 (and_right (eqb s.first 0) _ t) in
    λ i. state (add-zero s.acts i) s.selected s.stream (sym first i) (sym second i) (with_cursor_own s.mode i)

-- One pair of text more.
module _ (s : State) (c : Cursor) (n : ℕ) (d : List ℕ) (x y : ℕ) (t : is_text x ≡ true) where
  abbrev one : Option ℕ
  one = text_code_of x

  abbrev two : Option ℕ
  two = text_code_of y

  abbrev memory : ℕ
  memory = memory_of s.mode

  abbrev before : Desk
  before = desk (typed_of s c n) d

  -- typing leaves the gate as it was
  same_gate : is_open (typed_of s c n) ≡ is_open s
  same_gate = ap (λ (r : Bool). eqb s.stream s.selected && r) (is_ready-with_cursor s.mode c)

  more : s.acts + n + 1 ≡ s.acts + (n + 1)
  more = omega arith

  -- the gate is open: both codes at the cursor
  pub text_typed : is_open s ≡ true → s.mode.style ≤ 3
      → taken_of before x y ≡ desk (typed_of s (passed_of (passed_of c one) two) (n + 1)) (put_of (put_of d memory c one) memory (passed_of c one) two)
  unfolding taken_of cleared_of
  text_typed o high =
      let m = s.mode in
      let low = is_open_live s o in
      let first = write_any_of_at m d c one low high in
      let second = write_any_of_at m (put_of d memory c one) (passed_of c one) two low high in
      ap counted (text_pair before x y t refl
      ∙ sym (open_both before one two (same_gate ∙ o))
      ∙ ap (with_captions before) (ap (λ (w : Captions). write_any_of w two) first ∙ second))
      ∙ ap (λ (k : ℕ). desk (state k s.selected s.stream 0 0 (with_cursor m (passed_of (passed_of c one) two))) (put_of (put_of d memory c one) memory (passed_of c one) two)) more

  -- the gate is shut: the count alone
  pub text_shut : is_open s ≡ false → taken_of before x y ≡ desk (typed_of s c (n + 1)) d
  unfolding taken_of cleared_of
  text_shut o =
      ap counted (text_pair before x y t refl ∙ sym (shut_both before one two (same_gate ∙ o)))
      ∙ ap (λ (k : ℕ). desk (state k s.selected s.stream 0 0 (with_cursor s.mode c)) d) more
