-- No second answer fits the call. Assumes nothing.
use mathlib.Core.Path.{◌≡◌, refl, ap, sym, ◌∙◌}
use mathlib.Core.List.{List}
use Prim.Native.Nat.{ℕ}
use lib.Dec.{eqb}
use Rattle.std.specs.Prelude.{Option, Some, None}
use Rattle.facts.specs.Choice.{pick}
use Rattle.steps.specs.declared.Wrong.{Wrong}
use Rattle.steps.specs.declared.Wrong.TheVariants.{WrongLength, NoSuch, TooManyFrames, Invalid, NotWritable, TooEarly, Unshown}
use Rattle.steps.specs.Wrong.{number_of_wrong, earliest_of}
use Rattle.script.specs.declared.Made.{Made}
use Rattle.script.specs.Make.{Outcome, outcome, make_of}

-- number and earliest frame tell what is wrong
wrong_from : ℕ → ℕ → Option Wrong
wrong_from number earliest =
    pick (eqb number 0) None
    (Some (pick (eqb number 1) WrongLength (pick (eqb number 2) NoSuch (pick (eqb number 3) TooManyFrames (pick (eqb number 6) Invalid
    (pick (eqb number 7) NotWritable (pick (eqb number 8) (TooEarly earliest) Unshown)))))))

wrong_from_own : (w : Option Wrong) → wrong_from (number_of_wrong w) (earliest_of w) ≡ w
unfolding wrong_from
wrong_from_own None = refl
wrong_from_own (Some WrongLength) = refl
wrong_from_own (Some NoSuch) = refl
wrong_from_own (Some TooManyFrames) = refl
wrong_from_own (Some Invalid) = refl
wrong_from_own (Some NotWritable) = refl
wrong_from_own (Some (TooEarly earliest)) = refl
wrong_from_own (Some Unshown) = refl

pub make_only : (script out : List ℕ) (r q : Made) (d e : List ℕ) → outcome (number_of_wrong r.wrong) r.kept (earliest_of r.wrong) r.n d ≡ make_of script out
    → outcome (number_of_wrong q.wrong) q.kept (earliest_of q.wrong) q.n e ≡ make_of script out → (r ≡ q) × (d ≡ e)
make_only script out r q d e f g =
    let same : outcome (number_of_wrong r.wrong) r.kept (earliest_of r.wrong) r.n d ≡ outcome (number_of_wrong q.wrong) q.kept (earliest_of q.wrong) q.n e = f ∙ sym g in
    let wrong : r.wrong ≡ q.wrong = sym (wrong_from_own r.wrong) ∙ ap (λ (o : Outcome). wrong_from o.wrong o.earliest) same ∙ wrong_from_own q.wrong in
    (λ i. record { kept = (same i).kept; n = (same i).n; wrong = wrong i }, ap (λ (o : Outcome). o.out) same)
