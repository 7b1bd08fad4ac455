-- What a step to another channel comes to. Assumes nothing.
use mathlib.Core.Path.{◌≡◌}
use mathlib.Core.Bool.{true, false}
use Prim.Native.Nat.{ℕ, ◌<◌, ◌≤◌}
use native.Mathlib.Omega.{arith}
use borrow.Author.Tests.{le-leb, lt-leb}
use Rattle.facts.proofs.Choice.{below_cases}
use Rattle.steps.specs.Take.{Take, take, went, switch_of}

module _ (t : Take) (number : ℕ) where
  pub channel_drawn : t.drawn ≡ true → switch_of t number ≡ went 9 0 t
  unfolding switch_of
  channel_drawn d = rw d

  module _ (d : t.drawn ≡ false) where
    pub channel_kept : 1 ≤ number → number ≤ 2 → switch_of t number ≡ went 0 0 (take number false t.screen t.cues)
    unfolding switch_of
    channel_kept low high = rw (d, le-leb 1 number low, le-leb number 2 high)

    channel_low : number < 1 → switch_of t number ≡ went 2 0 t
    unfolding switch_of
    channel_low low = rw (d, lt-leb 1 number low)

    channel_high : 2 < number → switch_of t number ≡ went 2 0 t
    unfolding switch_of
    channel_high high = rw (d, le-leb 1 number (omega arith), lt-leb number 2 high)

    pub channel_none : (number ≡ 1 → ⊥) → (number ≡ 2 → ⊥) → switch_of t number ≡ went 2 0 t
    channel_none one two =
        below_cases number 1 channel_low
        (λ low. below_cases 2 number channel_high (λ high. below_cases 1 number (λ more. absurd (two (omega arith))) (λ less. absurd (one (omega arith)))))
