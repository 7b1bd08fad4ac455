-- Shifted flags joined to a colour are their sum. Assumes nothing.
use mathlib.Core.Path.{◌≡◌, refl, ap, ◌∙◌}
use mathlib.Core.Bool.{Bool, true, false}
use Prim.Native.Nat.{ℕ, ◌+◌, ◌*◌, ◌%◌, ◌<◌}
use native.Mathlib.Omega.{arith}
use lib.Bits.{bit_or, or_shifted_r}
use mir.Val.{bool_byte}
use Rattle.cell.specs.Pen.{one}

pub bool_byte_one : (b : Bool) → bool_byte b ≡ one b
bool_byte_one true = refl
bool_byte_one false = refl

pub one_small : (b : Bool) → one b < 2
one_small true = omega arith
one_small false = omega arith

pub or_flags : (c i u f : ℕ) → c < 8 → i < 2 → u < 2 → f < 2
    → bit_or (bit_or (bit_or c (i * 8 % 256)) (u * 16 % 256)) (f * 32 % 256) ≡ c + i * 8 + u * 16 + f * 32
or_flags c i u f hc hi hu hf =
    let i8 : i * 8 % 256 ≡ i * 8 = omega arith in
    let u16 : u * 16 % 256 ≡ u * 16 = omega arith in
    let f32 : f * 32 % 256 ≡ f * 32 = omega arith in
    let low = ap (bit_or c) i8 ∙ or_shifted_r i 3 c hc in
    let mid = (λ k. bit_or (low k) (u16 k)) ∙ or_shifted_r u 4 (i * 8 + c) (omega arith) in
    let all = (λ k. bit_or (mid k) (f32 k)) ∙ or_shifted_r f 5 (u * 16 + (i * 8 + c)) (omega arith) in
    omega (arith, all)
