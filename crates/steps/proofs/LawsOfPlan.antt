-- A cue is kept at its frame, or it is told why it cannot be. Assumes nothing.
use mathlib.Core.Path.{◌≡◌, refl, sym, ap, ◌∙◌}
use mathlib.Core.Bool.{Bool, true, false}
use Prim.Native.Nat.{ℕ, ◌+◌, ◌-◌, ◌≤◌}
use native.Mathlib.Omega.{arith}
use lib.Dec.{leb}
use borrow.Author.Tests.{leb-true}
use Rattle.std.specs.Prelude.{Result, Ok, Err}
use Rattle.facts.specs.Choice.{pick}
use Rattle.steps.specs.declared.Wrong.{Wrong}
use Rattle.steps.specs.declared.Wrong.TheVariants.{TooManyFrames, TooEarly}
use Rattle.steps.specs.Take.{Take, frame_count_of, Went, went, is_kept, timed_of}
use Rattle.steps.specs.Wrong.{wrong_number_of, wrong_frame_of, number_of_wrong, wrong_of}
use Rattle.steps.specs.Hand.{plan_of}

value : Result ℕ Wrong → ℕ
value (Ok held) = held
value (Err wrong) = 0

number : Result ℕ Wrong → ℕ
number r = number_of_wrong (wrong_of r)

module _ (earliest held : ℕ) where
  abbrev choice : Bool → Bool → Result ℕ Wrong
  choice kept fits = pick kept (pick fits (Ok held) (Err TooManyFrames)) (Err (TooEarly earliest))

  choice_held : {n : ℕ} (kept fits : Bool) → Ok n ≡ choice kept fits → (n ≡ held) × (fits ≡ true)
  unfolding value number
  choice_held true true e = (ap value e, refl)
  choice_held true false e = let z = ap number e in absurd (omega arith)
  choice_held false fits e = let z = ap number e in absurd (omega arith)

  module _ (t next : Take) where
    -- how it goes on, by the plan
    abbrev came : Result ℕ Wrong → Went
    came (Ok held) = went 0 0 next
    came (Err wrong) = went (wrong_number_of wrong) (wrong_frame_of wrong) t

    choice_came : (kept fits : Bool) → pick kept (pick fits (went 0 0 next) (went 3 0 t)) (went 8 earliest t) ≡ came (choice kept fits)
    choice_came true true = refl
    choice_came true false = refl
    choice_came false fits = refl

module _ (frames pairs frame : ℕ) where
  pub plan_held : {held : ℕ} → Ok held ≡ plan_of frames pairs frame → (held ≡ frame - (frames + pairs - 1)) × (frames + pairs + held ≤ 16000)
  unfolding plan_of
  plan_held e =
      let held = frame - (frames + pairs - 1) in
      let h = choice_held (frames + pairs - 1) held (is_kept frame (frames + pairs - 1)) (leb (frames + pairs + held) 16000) e in
      (h.0, omega (arith, h.0, leb-true (frames + pairs + held) 16000 h.1))

  module _ (t next : Take) (n : frame_count_of next ≡ frames + pairs + (frame - (frames + pairs - 1))) where
    timed_came : timed_of t frame (frames + pairs - 1) next ≡ came (frames + pairs - 1) (frame - (frames + pairs - 1)) t next (plan_of frames pairs frame)
    unfolding plan_of
    timed_came =
        rw n (choice_came (frames + pairs - 1) (frame - (frames + pairs - 1)) t next (is_kept frame (frames + pairs - 1)) (leb (frames + pairs + (frame - (frames + pairs - 1))) 16000))

    pub timed_kept : {held : ℕ} → Ok held ≡ plan_of frames pairs frame → timed_of t frame (frames + pairs - 1) next ≡ went 0 0 next
    timed_kept e = timed_came ∙ ap (came (frames + pairs - 1) (frame - (frames + pairs - 1)) t next) (sym e)

    pub timed_wrong : {wrong : Wrong} → Err wrong ≡ plan_of frames pairs frame → timed_of t frame (frames + pairs - 1) next ≡ went (wrong_number_of wrong) (wrong_frame_of wrong) t
    timed_wrong e = timed_came ∙ ap (came (frames + pairs - 1) (frame - (frames + pairs - 1)) t next) (sym e)
