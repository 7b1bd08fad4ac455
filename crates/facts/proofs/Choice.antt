-- What holds of what is picked; what tests say together. Assumes nothing.
use mathlib.Core.Path.{◌≡◌, refl, sym}
use mathlib.Core.Bool.{Bool, true, false, not, ◌&&◌, ◌||◌}
use Prim.Native.Nat.{ℕ, ◌<◌, ◌≤◌}
use lib.Dec.{ltb}
use borrow.Author.Tests.{ltb-true, ltb-false}
use Rattle.facts.specs.Choice.{pick, implies}

-- either way of a test, with what the test said
pub pick_cases : {A : Type 0} (P : A → Type 0) (t : Bool) {a b : A} → (t ≡ true → P a) → (t ≡ false → P b) → P (pick t a b)
pick_cases P true p q = p refl
pick_cases P false p q = q refl

-- which way a test went, by an answer that the other way does not give
pub pick_first : {A : Type 0} (t : Bool) {a b c : A} → pick t a b ≡ c → (b ≡ c → ⊥) → (t ≡ true) × (a ≡ c)
pick_first true e h = (refl, e)
pick_first false e h = absurd (h e)

pub pick_second : {A : Type 0} (t : Bool) {a b c : A} → pick t a b ≡ c → (a ≡ c → ⊥) → (t ≡ false) × (b ≡ c)
pick_second true e h = absurd (h e)
pick_second false e h = (refl, e)

-- either way of a comparison
pub below_cases : (a b : ℕ) {G : Type 0} → (a < b → G) → (b ≤ a → G) → G
below_cases a b {G} f g = go (ltb a b) refl
  where
    go : (t : Bool) → ltb a b ≡ t → G
    go true e = f (ltb-true a b e)
    go false e = g (ltb-false a b e)

pub and_left : (a b : Bool) → (a && b) ≡ true → a ≡ true
and_left true b e = refl
and_left false b e = e

pub and_right : (a b : Bool) → (a && b) ≡ true → b ≡ true
and_right true b e = e
and_right false b e = cc

pub and_both : {a b : Bool} → a ≡ true → b ≡ true → (a && b) ≡ true
and_both e f = λ i. e i && f i

pub or_cases : (a : Bool) {b : Bool} {G : Type 0} → (a || b) ≡ true → (a ≡ true → G) → (b ≡ true → G) → G
or_cases true e f g = f refl
or_cases false e f g = g e

pub or_left : {a : Bool} (b : Bool) → a ≡ true → (a || b) ≡ true
or_left b e = λ i. e i || b

-- neither passes
pub or_none_left : (a b : Bool) → (a || b) ≡ false → a ≡ false
or_none_left true b e = e
or_none_left false b e = refl

pub or_none_right : (a b : Bool) → (a || b) ≡ false → b ≡ false
or_none_right true b e = cc
or_none_right false b e = e

pub or_right : (a : Bool) {b : Bool} → b ≡ true → (a || b) ≡ true
or_right true e = refl
or_right false e = e

pub implies_at : (a b : Bool) → implies a b ≡ true → a ≡ true → b ≡ true
implies_at true b e h = e
implies_at false b e h = cc

pub implies_of : (a : Bool) {b : Bool} → (a ≡ true → b ≡ true) → implies a b ≡ true
implies_of true f = f refl
implies_of false f = refl

-- a requires b, as code joins it
pub not_or : (a b : Bool) → (not a || b) ≡ implies a b
not_or true b = refl
not_or false b = refl

-- two tests that pass together are the same
pub same_test : (a b : Bool) → (a ≡ true → b ≡ true) → (b ≡ true → a ≡ true) → a ≡ b
same_test true b f g = sym (f refl)
same_test false true f g = g refl
same_test false false f g = refl
