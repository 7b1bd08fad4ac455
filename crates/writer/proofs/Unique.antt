-- No second answer fits: two answers that both meet the clause of `write_tape` are one, and so is every byte they leave. Assumes nothing.
use mathlib.Core.Path.{◌≡◌, refl, ap, sym, ◌∙◌}
use mathlib.Core.List.{List}
use Prim.Native.Nat.{ℕ}
use lib.Dec.{eqb}
use Rattle.std.specs.Prelude.{Result, Ok, Err}
use Rattle.facts.specs.Choice.{pick}
use Rattle.wire.specs.Written.{Outcome, outcome}
use Rattle.writer.specs.declared.Refusal.{Refusal}
use Rattle.writer.specs.declared.Refusal.TheVariants.{WrongLength, NoSuch, Invalid, NotWritable}
use Rattle.writer.specs.Write.{number_of_tape, value_of_tape, write_tape_of}

-- number and value tell which answer it is
answer_of : ℕ → ℕ → Result ℕ Refusal
answer_of number value =
    pick (eqb number 0) (Ok value) (Err (pick (eqb number 1) WrongLength (pick (eqb number 2) NoSuch (pick (eqb number 6) Invalid NotWritable))))

answer_of_own : (r : Result ℕ Refusal) → answer_of (number_of_tape r) (value_of_tape r) ≡ r
unfolding answer_of
answer_of_own (Ok value) = refl
answer_of_own (Err WrongLength) = refl
answer_of_own (Err NoSuch) = refl
answer_of_own (Err Invalid) = refl
answer_of_own (Err NotWritable) = refl

pub write_tape_only : (memory : List ℕ) (channel : ℕ) (out : List ℕ) (r q : Result ℕ Refusal) (d e : List ℕ) → outcome (number_of_tape r) (value_of_tape r) d ≡ write_tape_of memory channel out
    → outcome (number_of_tape q) (value_of_tape q) e ≡ write_tape_of memory channel out → (r ≡ q) × (d ≡ e)
write_tape_only memory channel out r q d e f g =
    let same : outcome (number_of_tape r) (value_of_tape r) d ≡ outcome (number_of_tape q) (value_of_tape q) e = f ∙ sym g in
    (sym (answer_of_own r) ∙ ap (λ (o : Outcome). answer_of o.number o.value) same ∙ answer_of_own q, ap (λ (o : Outcome). o.out) same)
