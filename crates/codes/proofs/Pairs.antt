-- A test of every pair of numbers in two ranges turned into the rule at each pair. Assumes nothing.
use mathlib.Core.Path.{◌≡◌}
use mathlib.Core.Bool.{Bool, true}
use Prim.Native.Nat.{ℕ, ◌+◌, ◌-◌, ◌<◌, ◌≤◌}
use native.Mathlib.Omega.{arith}
use Rattle.facts.specs.Every.{every}
use Rattle.facts.proofs.Every.{every_at}

-- a counted from `first` on and b from `second` on
pub every_pair_at : (f : ℕ → ℕ → Bool) (first m second n : ℕ) → every (λ a. every (λ b. f (a + first) (b + second)) n) m ≡ true
    → (a b : ℕ) → first ≤ a → a < first + m → second ≤ b → b < second + n → f a b ≡ true
every_pair_at f first m second n t a b al au bl bu =
    let ea : a - first + first ≡ a = omega arith in
    let eb : b - second + second ≡ b = omega arith in
    let row = every_at (λ (k : ℕ). every (λ j. f (k + first) (j + second)) n) m t (a - first) (omega arith) in
    rw (ea, eb) at (every_at (λ (j : ℕ). f (a - first + first) (j + second)) n row (b - second) (omega arith))
