-- How large a number of few digits is. Assumes nothing.
use Prim.Native.Nat.{ℕ, ◌<◌, ◌≤◌, ◌^◌}
use mathlib.Core.List.{List}
use Rattle.std.proofs.Common.{Result, Ok, Err, length, arith, length-drop}
use Rattle.std.specs.Option.{IfSome}
use Rattle.std.specs.Result.{result_ok}
use Rattle.std.specs.Str.Parse.{ParsesUnsigned, without_leading_plus, digits_value}
use Rattle.std.proofs.lemmas.Int.Digits.{digits_value-lt}
use Rattle.std.proofs.Math.Nat.{pow-le-pow_right}

pub five_digits : {E : Type 0} (bs : List ℕ) (r : Result ℕ E) → length bs ≤ 5 → ParsesUnsigned 32 10 bs r → IfSome (result_ok r) (λ n. n < 100000)
five_digits bs (Ok n) h p =
    let ds = without_leading_plus bs in
    let below : digits_value 10 ds < 10 ^ length ds = digits_value-lt 10 ds p.0.0.1 in
    let short : length ds ≤ 5 = grind (arith, length-drop) in
    let most : 10 ^ length ds ≤ 10 ^ 5 = pow-le-pow_right {n = 10} (omega arith) short in
    omega (arith, p.1, below, most)
five_digits bs (Err e) h p = tt
