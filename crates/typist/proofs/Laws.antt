-- What a call of `script` leaves in a buffer that has room for every reel. Assumes nothing.
use mathlib.Core.Path.{◌≡◌, refl, ap, sym, ◌∙◌}
use mathlib.Core.Bool.{true, false, ◌&&◌}
use mathlib.Core.List.{List}
use Prim.Native.Nat.{ℕ, ◌≤◌}
use native.Mathlib.Omega.{arith}
use lib.Dec.{eqb}
use lib.ListN.{length, take}
use lib.Seq.{length-take-le}
use borrow.Author.Tests.{eq-eqb}
use Rattle.std.proofs.Common.{Option, Some, None, is_some, is_none}
use Rattle.facts.specs.Choice.{pick}
use Rattle.facts.specs.Over.{over}
use Rattle.facts.proofs.Over.{length-over}
use Rattle.steps.specs.declared.Wrong.{Wrong}
use Rattle.steps.specs.declared.Wrong.TheVariants.{WrongLength, NoSuch, TooManyFrames, Invalid, NotWritable, TooEarly, Unshown}
use Rattle.steps.specs.Wrong.{number_of_wrong, earliest_of}
use Rattle.script.specs.Script.{made_of, script_reel_of}
use Rattle.script.specs.Make.{Outcome, outcome, make_of, room}
use Rattle.typist.specs.Printed.{printed_of}
use Rattle.script.proofs.Results.{reel_fits}

-- n bytes of the buffer are the reel
pub record Left (script : List ℕ) (wrong : Option Wrong) (n : ℕ) (left : List ℕ) : Type 0 where
  pub said : number_of_wrong wrong ≡ (made_of script).last.wrong
  pub count : length (take n left) ≡ length (script_reel_of script)
  pub within : n ≤ length left

module _ (script out : List ℕ) (h : length out ≡ room) where
  makes : make_of script out
      ≡ outcome (made_of script).last.wrong (made_of script).kept (made_of script).last.earliest (length (script_reel_of script)) (over out 0 (script_reel_of script))
  unfolding make_of
  makes = simp (eq-eqb _ _ h)

  pub make_leaves : {wrong : Option Wrong} {kept n : ℕ} {left : List ℕ} → outcome (number_of_wrong wrong) kept (earliest_of wrong) n left ≡ make_of script out → Left script wrong n left
  make_leaves {n = n} {left = left} e =
      let f = e ∙ makes in
      let count = ap (λ (o : Outcome). o.n) f in
      let size = ap (λ (o : Outcome). length o.out) f ∙ length-over out 0 (script_reel_of script) in
      let within : n ≤ length left = omega (arith, h, size, count, reel_fits script) in
      record {
        said = ap (λ (o : Outcome). o.wrong) f;
        count = length-take-le n left within ∙ count;
        within = within;
      }

-- 0 is the number of nothing alone
number_none : (wrong : Option Wrong) → eqb (number_of_wrong wrong) 0 ≡ is_none wrong
number_none None = refl
number_none (Some WrongLength) = refl
number_none (Some NoSuch) = refl
number_none (Some TooManyFrames) = refl
number_none (Some Invalid) = refl
number_none (Some NotWritable) = refl
number_none (Some (TooEarly earliest)) = refl
number_none (Some Unshown) = refl

module _ {A : Type 0} (script : List ℕ) {wrong : Option Wrong} {n : ℕ} {left : List ℕ} (line : Option A) (l : Left script wrong n left) where
  printed : printed_of script line ≡ pick (is_none wrong && is_none line) (length (take n left)) 0
  printed = rw (sym l.said, number_none wrong, l.count) refl

  pub left_whole : is_some wrong ≡ false → is_some line ≡ false → length (take n left) ≡ printed_of script line
  left_whole e f = sym (printed ∙ rw (e, f) refl)

  pub left_wrong : is_some wrong ≡ true → 0 ≡ printed_of script line
  left_wrong e = sym (printed ∙ rw e refl)

  pub left_line : is_some wrong ≡ false → is_some line ≡ true → 0 ≡ printed_of script line
  left_line e f = sym (printed ∙ rw (e, f) refl)
