-- Small bytes, reels and buffers, and what each is, reads as or becomes, by computation. Assumes nothing.
use mathlib.Core.Path.{◌≡◌, refl}
use mathlib.Core.Bool.{true, false}
use mathlib.Core.List.{List, [], ◌∷◌}
use Prim.Native.Nat.{ℕ}
use Rattle.wire.specs.declared.Line.{Line}
use Rattle.wire.specs.declared.Line.TheVariants.{Pair, End, Bad}
use Rattle.wire.specs.Byte.{is_good, low_seven}
use Rattle.wire.specs.Line.{digit_of, hex_of, judge_of, line_at, line_of}
use Rattle.wire.specs.Numbers.{number_of_line, value_of_line}
use Rattle.wire.specs.Written.{outcome, write_line_of}

-- P1's first byte as it is sent, and P6's, which has lost its parity bit
pub good_94 : (is_good 0x94 ≡ true) × (low_seven 0x94 ≡ 0x14)
unfolding is_good low_seven
good_94 = (refl, refl)

pub bad_14 : (is_good 0x14 ≡ false) × (low_seven 0x14 ≡ 0x14)
unfolding is_good low_seven
bad_14 = (refl, refl)

-- a reel's first line, with the paper's number and value for it
abbrev Reads : List ℕ → Line → ℕ → ℕ → Type 0
Reads reel line number value = (line_at reel 0 ≡ line) × (number_of_line line ≡ number) × (value_of_line line ≡ value)

-- 9420
pub reads_pair : Reads (0x39 ∷ 0x34 ∷ 0x32 ∷ 0x30 ∷ 0x0a ∷ []) (Pair 0x94 0x20) 0 0x9420
unfolding line_at judge_of digit_of
reads_pair = (refl, refl, refl)

-- c849, which is C849 in lower case
pub reads_lower_case : Reads (0x63 ∷ 0x38 ∷ 0x34 ∷ 0x39 ∷ 0x0a ∷ []) Bad 5 0
unfolding line_at judge_of digit_of
reads_lower_case = (refl, refl, refl)

-- 9420 with a carriage return before the line feed
pub reads_carriage_return : Reads (0x39 ∷ 0x34 ∷ 0x32 ∷ 0x30 ∷ 0x0d ∷ 0x0a ∷ []) Bad 5 0
unfolding line_at judge_of digit_of
reads_carriage_return = (refl, refl, refl)

-- 9420 with no line feed
pub reads_short : Reads (0x39 ∷ 0x34 ∷ 0x32 ∷ 0x30 ∷ []) Bad 5 0
unfolding line_at judge_of digit_of
reads_short = (refl, refl, refl)

-- a blank line before 9420
pub reads_blank : Reads (0x0a ∷ 0x39 ∷ 0x34 ∷ 0x32 ∷ 0x30 ∷ 0x0a ∷ []) Bad 5 0
unfolding line_at judge_of digit_of
reads_blank = (refl, refl, refl)

pub reads_empty : Reads [] End 0 0
unfolding line_at
reads_empty = (refl, refl, refl)

-- C849 into five bytes, and into four
pub writes_line : write_line_of (0 ∷ 0 ∷ 0 ∷ 0 ∷ 0 ∷ []) 0xc8 0x49 ≡ outcome 0 0 (0x43 ∷ 0x38 ∷ 0x34 ∷ 0x39 ∷ 0x0a ∷ [])
unfolding write_line_of line_of hex_of
writes_line = refl

pub writes_nothing : write_line_of (1 ∷ 2 ∷ 3 ∷ 4 ∷ []) 0xc8 0x49 ≡ outcome 1 0 (1 ∷ 2 ∷ 3 ∷ 4 ∷ [])
unfolding write_line_of
writes_nothing = refl
