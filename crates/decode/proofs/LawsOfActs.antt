-- The count of acts plays no part in what a pair does: a desk with another count takes it alike. Assumes nothing.
use mathlib.Core.Path.{◌≡◌, refl, ap, ◌∙◌}
use mathlib.Core.Bool.{Bool, true, false}
use Prim.Native.Nat.{ℕ}
use lib.Dec.{eqb, ltb}
use Rattle.facts.specs.Choice.{pick}
use Rattle.wire.specs.Byte.{is_good, low_seven}
use Rattle.codes.specs.Codes.{code_of, channel_of}
use Rattle.codes.specs.Assigned.{is_unassigned}
use Rattle.state.specs.State.{Desk, desk, state}
use Rattle.decode.specs.Pair.{cleared_of, is_open, type_of, as_text_of, is_damaged_repeat, rule_one_of, rule_two_of, is_passed_over, control_of, rule_three_of, rule_four_of, pair_of}

-- the desk with another count
abbrev pub acted_of : ℕ → Desk → Desk
acted_of n d = desk (state n d.state.selected d.state.stream d.state.first d.state.second d.state.mode) d.cells

-- either way of a test
pick_both : {A : Type 0} (f : A → A) (t : Bool) {a b p q : A} → p ≡ f a → q ≡ f b → pick t p q ≡ f (pick t a b)
pick_both f true e g = e
pick_both f false e g = g

module _ (n : ℕ) where
  type_of_acted : (d : Desk) (code : ℕ) → type_of (acted_of n d) code ≡ acted_of n (type_of d code)
  unfolding type_of
  type_of_acted d code = pick_both (acted_of n) (is_open d.state) refl refl

  as_text_of_acted : (d : Desk) (y : ℕ) → as_text_of (acted_of n d) y ≡ acted_of n (as_text_of d y)
  unfolding as_text_of
  as_text_of_acted d y = pick_both (acted_of n) (is_good y) (pick_both (acted_of n) (ltb (low_seven y) 0x20) refl (type_of_acted d (low_seven y))) (type_of_acted d 0x7f)

  both_acted : (d : Desk) (code y : ℕ) → as_text_of (type_of (acted_of n d) code) y ≡ acted_of n (as_text_of (type_of d code) y)
  both_acted d code y = ap (λ (e : Desk). as_text_of e y) (type_of_acted d code) ∙ as_text_of_acted (type_of d code) y

  control_of_acted : (d : Desk) (a b : ℕ) → control_of (acted_of n d) a b ≡ acted_of n (control_of d a b)
  unfolding control_of
  control_of_acted d a b = pick_both (acted_of n) (eqb (channel_of a) d.state.selected) refl refl

  pub pair_of_acted : (d : Desk) (x y : ℕ) → pair_of (acted_of n d) x y ≡ acted_of n (pair_of d x y)
  unfolding pair_of rule_one_of rule_two_of rule_three_of rule_four_of cleared_of
  pair_of_acted d x y =
      let e = cleared_of d in
      pick_both (acted_of n) (is_good x)
      (pick_both (acted_of n) (ltb (low_seven x) 0x10) (as_text_of_acted e y)
      (pick_both (acted_of n) (ltb (low_seven x) 0x20)
      (pick_both (acted_of n) (is_passed_over d.state (low_seven x) y) refl
      (pick_both (acted_of n) (is_unassigned (code_of (low_seven x) (low_seven y))) refl (control_of_acted e (low_seven x) (low_seven y))))
      (both_acted e (low_seven x) y)))
      (pick_both (acted_of n) (is_damaged_repeat d.state y) refl (both_acted e 0x7f y))
