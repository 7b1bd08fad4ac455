-- A value as it is sent is a byte, is good, and says what the value says. Assumes nothing.
use mathlib.Core.Path.{◌≡◌, refl, ◌∙◌}
use mathlib.Core.Bool.{Bool, true, ◌&&◌}
use Prim.Native.Nat.{ℕ, ◌+◌, ◌<◌}
use native.Mathlib.Omega.{arith}
use lib.Dec.{eqb}
use borrow.Author.Tests.{eqb-true}
use Rattle.facts.specs.Choice.{pick}
use Rattle.facts.specs.Every.{every}
use Rattle.facts.proofs.Choice.{pick_cases, and_left, and_right}
use Rattle.facts.proofs.Every.{every_at}
use Rattle.wire.specs.Byte.{is_good, low_seven, sent_of}
use Rattle.wire.proofs.Laws.{low_seven_below}

-- of a value without parity bit
abbrev raised : ℕ → ℕ
raised v = pick (is_good v) v (v + 0x80)

is_raised : ℕ → Bool
is_raised v = is_good (raised v) && eqb (low_seven (raised v)) v

all_raised : every is_raised 128 ≡ true
unfolding is_raised is_good low_seven
all_raised = refl

module _ (v : ℕ) (h : v < 128) where
  raised_good : is_good (raised v) ≡ true
  unfolding is_raised
  raised_good = and_left (is_good (raised v)) (eqb (low_seven (raised v)) v) (every_at is_raised 128 all_raised v h)

  raised_low : low_seven (raised v) ≡ v
  unfolding is_raised
  raised_low = eqb-true (low_seven (raised v)) v (and_right (is_good (raised v)) (eqb (low_seven (raised v)) v) (every_at is_raised 128 all_raised v h))

pub is_good-sent_of : (v : ℕ) → is_good (sent_of v) ≡ true
unfolding sent_of
is_good-sent_of v = raised_good (low_seven v) (low_seven_below v)

pub low_seven-sent_of : (v : ℕ) → v < 128 → low_seven (sent_of v) ≡ v
unfolding sent_of low_seven
low_seven-sent_of v h = let small : low_seven v ≡ v = omega arith in raised_low (low_seven v) (low_seven_below v) ∙ small

pub sent_of_byte : (v : ℕ) → sent_of v < 256
unfolding sent_of
sent_of_byte v =
    let low = low_seven_below v in
    pick_cases (λ (x : ℕ). x < 256) (is_good (low_seven v)) (λ t. omega arith) (λ t. omega arith)
