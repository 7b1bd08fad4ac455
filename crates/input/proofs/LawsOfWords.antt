-- A decimal number that is taken modulo 2 ^ 32 at each digit. Assumes nothing.
use Rattle.std.proofs.Common.{◌≡◌, ℕ, ◌+◌, ◌*◌, ◌%◌, ◌/◌, ap, ◌∙◌, sym, arith}
use Rattle.std.proofs.Math.Nat.{mod-add-div', add-mul-mod_self_right}

-- one digit more: the rest of the number before it is enough
pub add_digit : (s b : ℕ) → (s % 4294967296 * 10 % 4294967296 + b) % 4294967296 ≡ (s * 10 + b) % 4294967296
add_digit s b =
    let r = s % 4294967296 in
    let inner : r * 10 % 4294967296 + b + r * 10 / 4294967296 * 4294967296 ≡ r * 10 + b = omega (arith, mod-add-div' (r * 10) 4294967296) in
    let outer : r * 10 + b + s / 4294967296 * 10 * 4294967296 ≡ s * 10 + b = omega (arith, mod-add-div' s 4294967296) in
    (sym (add-mul-mod_self_right (r * 10 % 4294967296 + b) (r * 10 / 4294967296) 4294967296) ∙ ap (λ n. n % 4294967296) inner)
    ∙ (sym (add-mul-mod_self_right (r * 10 + b) (s / 4294967296 * 10) 4294967296) ∙ ap (λ n. n % 4294967296) outer)
