-- A sum that is taken modulo the prime at each byte is the sum. Assumes nothing.
use Rattle.std.proofs.Common.{◌≡◌, ℕ, ◌+◌, ◌*◌, ◌%◌, ◌/◌, List, [], ◌∷◌, ap, ◌∙◌, sym, refl, arith}
use Rattle.std.specs.List.{fold}
use Rattle.std.proofs.Math.Nat.{mod-add-div', add-mul-mod_self_right}
use Rattle.input.specs.Sums.{sum_from}

-- one byte more: the rest of the sum before it is enough
pub add_rest : (s b : ℕ) → (s % 4294967291 * 256 + b) % 4294967291 ≡ (s * 256 + b) % 4294967291
add_rest s b =
    let parts : s % 4294967291 * 256 + b + s / 4294967291 * 256 * 4294967291 ≡ s * 256 + b = omega (arith, mod-add-div' s 4294967291) in
    sym (add-mul-mod_self_right (s % 4294967291 * 256 + b) (s / 4294967291 * 256) 4294967291) ∙ ap (λ n. n % 4294967291) parts

pub fold_sums : (s : ℕ) (bytes : List ℕ) → fold (λ n b. (n * 256 + b) % 4294967291) (s % 4294967291) bytes ≡ sum_from s bytes
fold_sums s [] = refl
fold_sums s (b ∷ bytes) = ap (λ n. fold (λ n b. (n * 256 + b) % 4294967291) n bytes) (add_rest s b) ∙ fold_sums (s * 256 + b) bytes
