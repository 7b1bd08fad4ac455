-- The laws of pairs: every pair's code is proper, both channels have the same codes, and which pairs are assigned. Assumes nothing.
use mathlib.Core.Path.{◌≡◌, refl, ap}
use mathlib.Core.Bool.{Bool, true, not, ◌&&◌}
use Prim.Native.Nat.{ℕ, ◌+◌, ◌-◌, ◌≤◌}
use native.Mathlib.Omega.{arith}
use borrow.Author.Tests.{le-leb, lt-leb, leb-true, eqb-true}
use lib.Dec.{leb, eqb}
use Rattle.facts.specs.Every.{every}
use Rattle.facts.proofs.Choice.{pick_cases, and_left, and_right, and_both, or_cases, or_right}
use Rattle.cell.specs.Pen.{pack_of, is_pen, of_preamble}
use Rattle.cell.specs.Code.{is_code}
use Rattle.cell.specs.Cursor.{preamble_column_of}
use Rattle.codes.specs.declared.Code.{Code}
use Rattle.codes.specs.declared.Code.TheVariants.{Unassigned, MidRow, Special, Tab, Preamble, Rcl, Bs, Der, Ru, Fon, Rdc, Tr, Rtd, Edm, Cr, Enm, Eoc}
use Rattle.codes.specs.Rows.{preamble_row_of}
use Rattle.codes.specs.Codes.{channel_of, without_channel_of, mid_row_or_special_of, tab_offset_of, preamble_code_of, channel_one_code_of, code_of}
use Rattle.codes.specs.Assigned.{is_unassigned, is_control, is_assigned, is_expected}
use Rattle.codes.specs.Proper.{Proper}
use Rattle.codes.proofs.Pairs.{every_pair_at}
use Rattle.codes.proofs.Numbers.{is_proper, proper_of}

-- Every pair's code is proper: one test of the whole table, both channels.

all_proper : every (λ a. every (λ b. is_proper (code_of (a + 0x10) (b + 0x20))) 96) 16 ≡ true
unfolding code_of without_channel_of channel_one_code_of mid_row_or_special_of tab_offset_of preamble_code_of preamble_row_of preamble_column_of of_preamble pack_of is_pen is_code
all_proper = refl

pub code_of_proper : (a b : ℕ) → 0x10 ≤ a → a ≤ 0x1f → 0x20 ≤ b → b ≤ 0x7f → Proper (code_of a b)
code_of_proper a b al au bl bu =
    proper_of (code_of a b) (every_pair_at (λ a b. is_proper (code_of a b)) 0x10 16 0x20 96 all_proper a b al (omega arith) bl (omega arith))

-- Channels.

pub code_of_both_channels : (a b : ℕ) → 0x10 ≤ a → a ≤ 0x17 → code_of (a + 8) b ≡ code_of a b
unfolding code_of without_channel_of
code_of_both_channels a b low high =
    let back : a + 8 - 8 ≡ a = omega arith in
    let same : without_channel_of (a + 8) ≡ without_channel_of a = simp (lt-leb (a + 8) 0x17 (omega arith), le-leb a 0x17 high, back) in
    ap (λ (n : ℕ). channel_one_code_of n b) same

pub channel_of-one : (a : ℕ) → a ≤ 0x17 → channel_of a ≡ 1
unfolding channel_of
channel_of-one a h = simp (le-leb a 0x17 h)

pub channel_of_two : (a : ℕ) → 0x18 ≤ a → channel_of a ≡ 2
unfolding channel_of
channel_of_two a h = simp (lt-leb a 0x17 h)

pub channel_of_high : (a : ℕ) → channel_of a ≤ 2
unfolding channel_of
channel_of_high a = pick_cases (λ (n : ℕ). n ≤ 2) (leb a 0x17) (λ t. omega arith) (λ t. omega arith)

-- The test for an unassigned code finds that code alone.

pub is_unassigned_true : (code : Code) → is_unassigned code ≡ true → code ≡ Unassigned
is_unassigned_true Unassigned e = refl
is_unassigned_true (MidRow b) e = cc
is_unassigned_true (Special code) e = cc
is_unassigned_true (Tab n) e = cc
is_unassigned_true (Preamble row column pen) e = cc
is_unassigned_true Rcl e = cc
is_unassigned_true Bs e = cc
is_unassigned_true Der e = cc
is_unassigned_true (Ru n) e = cc
is_unassigned_true Fon e = cc
is_unassigned_true Rdc e = cc
is_unassigned_true Tr e = cc
is_unassigned_true Rtd e = cc
is_unassigned_true Edm e = cc
is_unassigned_true Cr e = cc
is_unassigned_true Enm e = cc
is_unassigned_true Eoc e = cc

-- Assigned pairs.

pub is_control_facts : (a b : ℕ) → is_control a b ≡ true → (0x10 ≤ a) × (a ≤ 0x1f) × (0x20 ≤ b) × (b ≤ 0x7f)
is_control_facts a b e =
    let first = leb 0x10 a && leb a 0x1f in
    let three = and_left (first && leb 0x20 b) (leb b 0x7f) e in
    let two = and_left first (leb 0x20 b) three in (
      leb-true 0x10 a (and_left (leb 0x10 a) (leb a 0x1f) two),
      leb-true a 0x1f (and_right (leb 0x10 a) (leb a 0x1f) two),
      leb-true 0x20 b (and_right first (leb 0x20 b) three),
      leb-true b 0x7f (and_right (first && leb 0x20 b) (leb b 0x7f) e),
    )

pub is_control_of : (a b : ℕ) → 0x10 ≤ a → a ≤ 0x1f → 0x20 ≤ b → b ≤ 0x7f → is_control a b ≡ true
is_control_of a b al au bl bu = and_both (and_both (and_both (le-leb 0x10 a al) (le-leb a 0x1f au)) (le-leb 0x20 b bl)) (le-leb b 0x7f bu)

pub is_assigned_facts : (a b : ℕ) → is_assigned a b ≡ true → (0x10 ≤ a) × (a ≤ 0x1f) × (0x20 ≤ b) × (b ≤ 0x7f)
unfolding is_assigned
is_assigned_facts a b e = is_control_facts a b (and_left (is_control a b) (not (is_unassigned (code_of a b))) e)

-- in the range a pair is assigned exactly where its code is another than `Unassigned`
pub is_assigned_code_of : (a b : ℕ) → 0x10 ≤ a → a ≤ 0x1f → 0x20 ≤ b → b ≤ 0x7f → is_assigned a b ≡ not (is_unassigned (code_of a b))
unfolding is_assigned
is_assigned_code_of a b al au bl bu = ap (λ (t : Bool). t && not (is_unassigned (code_of a b))) (is_control_of a b al au bl bu)

-- Expected pairs.

pub none_is_expected : is_expected 0 0 ≡ true
unfolding is_expected
none_is_expected = refl

pub is_expected_of : (a b : ℕ) → is_assigned a b ≡ true → is_expected a b ≡ true
unfolding is_expected
is_expected_of a b e = or_right (eqb a 0 && eqb b 0) e

pub is_expected_cases : (a b : ℕ) {G : Type 0} → is_expected a b ≡ true → (a ≡ 0 → b ≡ 0 → G) → (is_assigned a b ≡ true → G) → G
unfolding is_expected
is_expected_cases a b e none some =
    or_cases (eqb a 0 && eqb b 0) e
    (λ t. none (eqb-true a 0 (and_left (eqb a 0) (eqb b 0) t)) (eqb-true b 0 (and_right (eqb a 0) (eqb b 0) t)))
    some
