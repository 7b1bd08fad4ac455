-- Two codes through one gate; every pair and every selection keeps a sound desk sound, whatever it was, and counts one. Assumes nothing.
use Rattle.std.specs.Prelude.{Option, Some, None}
use mathlib.Core.Path.{◌≡◌, refl, ap, sym, ◌∙◌}
use mathlib.Core.Bool.{Bool, true, false, not, ◌&&◌, ◌||◌}
use Prim.Native.Nat.{ℕ, ◌+◌, ◌<◌, ◌≤◌}
use native.Mathlib.Omega.{arith}
use lib.Dec.{eqb, ltb}
use borrow.Author.Tests.{ltb-true, ltb-false, le-leb}
use Rattle.facts.specs.Choice.{pick}
use Rattle.facts.proofs.Choice.{pick_cases, and_right, and_both, or_left, or_right, or_none_left, or_none_right}
use Rattle.wire.specs.Byte.{is_good, low_seven}
use Rattle.wire.proofs.Laws.{low_seven_below}
use Rattle.cell.specs.Code.{is_code}
use Rattle.codes.specs.Codes.{code_of, channel_of}
use Rattle.codes.specs.Assigned.{is_unassigned, is_expected}
use Rattle.codes.proofs.Laws.{code_of_proper, channel_of_high, is_assigned_code_of, none_is_expected, is_expected_of}
use Rattle.state.specs.declared.State.{State}
use Rattle.state.specs.State.{Captions, Desk, desk}
use Rattle.state.specs.Style.{is_ready}
use Rattle.state.specs.Ranges.{Sound}
use Rattle.state.proofs.Laws.{is_ready_live, fresh_sound}
use Rattle.typing.specs.Typing.{write_of, write_any_of}
use Rattle.typing.proofs.Laws.{write_of_sound, is_ready-write_any_of}
use Rattle.acts.specs.Act.{act_of}
use Rattle.acts.proofs.Laws.{act_of_sound}
use Rattle.decode.specs.Pair.{captions_of, with_captions, told, cleared_of, is_open, type_of, as_text_of, text_code_of, type_any_of, is_damaged_repeat, rule_one_of, rule_two_of, is_passed_over, control_of, rule_three_of, rule_four_of, pair_of}
use Rattle.decode.specs.Step.{taken_of, select_of, fresh_desk}
use Rattle.decode.specs.Sound.{SoundDesk}

-- "20h–7Fh" are cell codes
text_is_code : (code : ℕ) → 0x20 ≤ code → code < 128 → is_code code ≡ true
unfolding is_code
text_is_code code low high =
    or_left _ (or_left _ (or_right (eqb code 0) (and_both (le-leb 0x20 code low) (le-leb code 0x7f (omega arith)))))

-- the gate is open only with a style set
pub is_open_live : (s : State) → is_open s ≡ true → 1 ≤ s.mode.style
is_open_live s t = is_ready_live s.mode (and_right (eqb s.stream s.selected) (is_ready s.mode) t)

-- A byte as text is its code typed.

type_any_of_text : (d : Desk) (y : ℕ) → type_any_of d (text_code_of y) ≡ as_text_of d y
unfolding text_code_of as_text_of
type_any_of_text d y = go (is_good y) (ltb (low_seven y) 0x20)
  where
    go : (g l : Bool) → type_any_of d (pick g (pick l None (Some (low_seven y))) (Some 0x7f)) ≡ pick g (pick l d (type_of d (low_seven y))) (type_of d 0x7f)
    go true true = refl
    go true false = refl
    go false l = refl

-- rule 2: no code, then a byte as text
pub none_then_text : (d : Desk) (y : ℕ) → type_any_of (type_any_of d None) (text_code_of y) ≡ as_text_of d y
none_then_text d y = type_any_of_text d y

-- rules 1 and 4: a code, then a byte as text
pub code_then_text : (d : Desk) (code y : ℕ) → type_any_of (type_any_of d (Some code)) (text_code_of y) ≡ as_text_of (type_of d code) y
code_then_text d code y = type_any_of_text (type_of d code) y

-- The gate for two codes is asked once: writing leaves it as it was.

type_any_of_open : (d : Desk) (code : Option ℕ) → is_open d.state ≡ true → type_any_of d code ≡ with_captions d (write_any_of (captions_of d) code)
unfolding type_of
type_any_of_open d None t = refl
type_any_of_open d (Some code) t = rw t

type_any_of_shut : (d : Desk) (code : Option ℕ) → is_open d.state ≡ false → type_any_of d code ≡ d
unfolding type_of
type_any_of_shut d None t = refl
type_any_of_shut d (Some code) t = rw t

pub open_both : (d : Desk) (first second : Option ℕ) → is_open d.state ≡ true → with_captions d (write_any_of (write_any_of (captions_of d) first) second) ≡ type_any_of (type_any_of d first) second
open_both d first second t =
    let e = with_captions d (write_any_of (captions_of d) first) in
    let still = ap (λ (r : Bool). eqb d.state.stream d.state.selected && r) (is_ready-write_any_of (captions_of d) first) in
    sym (ap (λ (x : Desk). type_any_of x second) (type_any_of_open d first t) ∙ type_any_of_open e second (still ∙ t))

pub shut_both : (d : Desk) (first second : Option ℕ) → is_open d.state ≡ false → d ≡ type_any_of (type_any_of d first) second
shut_both d first second t = sym (ap (λ (x : Desk). type_any_of x second) (type_any_of_shut d first t) ∙ type_any_of_shut d second t)

-- what is known of a control pair that is not passed over
pub is_passed_over_second : (d : Desk) (a y : ℕ) → is_passed_over d.state a y ≡ false → 0x20 ≤ low_seven y
is_passed_over_second d a y t =
    ltb-false (low_seven y) 0x20 (or_none_right (not (is_good y)) (ltb (low_seven y) 0x20) (or_none_left (not (is_good y) || ltb (low_seven y) 0x20) _ t))

-- What clearing, writing and an assigned pair keep, every pair keeps: the one argument by rules.
module _ (Q : Desk → Type 0) (clear : (d : Desk) → Q d → Q (cleared_of d))
    (write : (d : Desk) (code : ℕ) → is_code code ≡ true → 1 ≤ code → Q d → Q (type_of d code))
    (control : (d : Desk) (a b : ℕ) → 0x10 ≤ a → a ≤ 0x1f → 0x20 ≤ b → b ≤ 0x7f → is_unassigned (code_of a b) ≡ false → Q d → Q (control_of d a b))
  where
    as_text_of_keeps : (d : Desk) (y : ℕ) → Q d → Q (as_text_of d y)
    unfolding as_text_of
    as_text_of_keeps d y h =
        pick_cases Q (is_good y)
        (λ t. pick_cases Q (ltb (low_seven y) 0x20) (λ u. h)
        (λ u.
        let low = ltb-false (low_seven y) 0x20 u in
        write d (low_seven y) (text_is_code (low_seven y) low (low_seven_below y)) (omega arith) h))
        (λ t. write d 0x7f (text_is_code 0x7f (omega arith) (omega arith)) (omega arith) h)

    -- a code, then the second byte as text
    both_keeps : (d : Desk) (code y : ℕ) → 0x20 ≤ code → code < 128 → Q d → Q (as_text_of (type_of d code) y)
    both_keeps d code y low high h = as_text_of_keeps (type_of d code) y (write d code (text_is_code code low high) (omega arith) h)

    rule_three_of_keeps : (d : Desk) (a y : ℕ) → 0x10 ≤ a → a ≤ 0x1f → Q d → Q (rule_three_of d a y)
    unfolding rule_three_of
    rule_three_of_keeps d a y low high h =
        let small = low_seven_below y in
        let e = clear d h in
        pick_cases Q (is_passed_over d.state a y) (λ t. e)
        (λ t. pick_cases Q (is_unassigned (code_of a (low_seven y))) (λ u. e)
        (λ u. control (cleared_of d) a (low_seven y) low high (is_passed_over_second d a y t) (omega arith) u e))

    pub pair_of_keeps : (d : Desk) (x y : ℕ) → Q d → Q (pair_of d x y)
    unfolding pair_of rule_one_of rule_two_of rule_four_of
    pair_of_keeps d x y h =
        let small = low_seven_below x in
        let e = clear d h in
        pick_cases Q (is_good x)
        (λ t. pick_cases Q (ltb (low_seven x) 0x10) (λ u. as_text_of_keeps (cleared_of d) y e)
        (λ u. pick_cases Q (ltb (low_seven x) 0x20)
        (λ v. rule_three_of_keeps d (low_seven x) y (ltb-false (low_seven x) 0x10 u) (omega (arith, ltb-true (low_seven x) 0x20 v)) h)
        (λ v. both_keeps (cleared_of d) (low_seven x) y (ltb-false (low_seven x) 0x20 v) small e)))
        (λ t. pick_cases Q (is_damaged_repeat d.state y) (λ u. e) (λ u. both_keeps (cleared_of d) 0x7f y (omega arith) (omega arith) e))

-- The rules leave the count of acts alone.

abbrev Counts : ℕ → Desk → Type 0
Counts n d = d.state.acts ≡ n

pub pair_of_acts : (d : Desk) (x y : ℕ) → (pair_of d x y).state.acts ≡ d.state.acts
unfolding cleared_of type_of control_of
pair_of_acts d x y =
    let n = d.state.acts in
    pair_of_keeps (Counts n) (λ e h. h)
    (λ e code t low h. pick_cases (Counts n) (is_open e.state) (λ u. h) (λ u. h))
    (λ e a b al au bl bu t h. pick_cases (Counts n) (eqb (channel_of a) e.state.selected) (λ u. h) (λ u. h)) d x y refl

-- The rules keep a sound desk sound.

module _ (d : Desk) (h : SoundDesk d) where
  with_captions_sound : (c : Captions) → Sound c → SoundDesk (with_captions d c)
  with_captions_sound c s = record {
    acts = h.acts;
    selected_low = h.selected_low;
    selected_high = h.selected_high;
    stream = h.stream;
    expected = h.expected;
    captions = s;
  }

  told_sound : (stream first second : ℕ) → stream ≤ 2 → is_expected first second ≡ true → SoundDesk (desk (told d.state stream first second) d.cells)
  told_sound stream first second s e = record {
    acts = h.acts;
    selected_low = h.selected_low;
    selected_high = h.selected_high;
    stream = s;
    expected = e;
    captions = h.captions;
  }

cleared_of_sound : (d : Desk) → SoundDesk d → SoundDesk (cleared_of d)
unfolding cleared_of
cleared_of_sound d h = told_sound d h d.state.stream 0 0 h.stream none_is_expected

type_of_sound : (d : Desk) (code : ℕ) → is_code code ≡ true → 1 ≤ code → SoundDesk d → SoundDesk (type_of d code)
unfolding type_of
type_of_sound d code e low h =
    pick_cases SoundDesk (is_open d.state)
    (λ t. with_captions_sound d h (write_of (captions_of d) code) (write_of_sound (captions_of d) h.captions code e low (is_open_live d.state t))) (λ t. h)

control_of_sound : (d : Desk) (a b : ℕ) → 0x10 ≤ a → a ≤ 0x1f → 0x20 ≤ b → b ≤ 0x7f → is_unassigned (code_of a b) ≡ false → SoundDesk d → SoundDesk (control_of d a b)
unfolding control_of
control_of_sound d a b al au bl bu t h =
    let x = desk (told d.state (channel_of a) a b) d.cells in
    let s = told_sound d h (channel_of a) a b (channel_of_high a) (is_expected_of a b (is_assigned_code_of a b al au bl bu ∙ ap not t)) in
    pick_cases SoundDesk (eqb (channel_of a) d.state.selected)
    (λ u. with_captions_sound x s (act_of (captions_of x) (code_of a b)) (act_of_sound (captions_of x) (code_of a b) (code_of_proper a b al au bl bu) h.captions))
    (λ u. s)

pub pair_of_sound : (d : Desk) (x y : ℕ) → SoundDesk d → SoundDesk (pair_of d x y)
pair_of_sound d x y h = pair_of_keeps SoundDesk cleared_of_sound type_of_sound control_of_sound d x y h

-- The two acts.

pub taken_of_acts : (d : Desk) (x y : ℕ) → (taken_of d x y).state.acts ≡ d.state.acts + 1
unfolding taken_of
taken_of_acts d x y = ap (λ (n : ℕ). n + 1) (pair_of_acts d x y)

-- every pair keeps a valid desk valid
pub taken_of_sound : (d : Desk) (x y : ℕ) → SoundDesk d → d.state.acts < 16000 → SoundDesk (taken_of d x y)
unfolding taken_of
taken_of_sound d x y h room =
    let p = pair_of_sound d x y h in
    let n = pair_of_acts d x y in
    record {
      acts = omega arith;
      selected_low = p.selected_low;
      selected_high = p.selected_high;
      stream = p.stream;
      expected = p.expected;
      captions = p.captions;
    }

pub select_of_acts : (d : Desk) (channel : ℕ) → (select_of d channel).state.acts ≡ d.state.acts + 1
unfolding select_of
select_of_acts d channel = refl

-- and so does every selection
pub select_of_sound : (d : Desk) (channel : ℕ) → 1 ≤ channel → channel ≤ 2 → d.state.acts < 16000 → SoundDesk (select_of d channel)
unfolding select_of
select_of_sound d channel low high room = record {
  acts = omega arith;
  selected_low = low;
  selected_high = high;
  stream = omega arith;
  expected = none_is_expected;
  captions = fresh_sound;
}

pub fresh_desk_sound : SoundDesk fresh_desk
unfolding fresh_desk
fresh_desk_sound = record {
  acts = omega arith;
  selected_low = omega arith;
  selected_high = omega arith;
  stream = omega arith;
  expected = none_is_expected;
  captions = fresh_sound;
}

pub fresh_desk_acts : fresh_desk.state.acts ≡ 0
unfolding fresh_desk
fresh_desk_acts = refl
