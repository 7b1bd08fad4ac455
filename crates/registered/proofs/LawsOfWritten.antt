-- What a call of the writer that answers 0 left: the memory can be shown, and its tape stands in the front of the buffer. Assumes nothing.
use mathlib.Core.Path.{◌≡◌, refl}
use mathlib.Core.List.{List}
use Prim.Native.Nat.{ℕ}
use native.Mathlib.Omega.{arith}
use lib.Dec.{eqb}
use lib.ListN.{length, take}
use borrow.Author.Tests.{eqb-true}
use Rattle.facts.proofs.Choice.{pick_cases, and_left, and_right}
use Rattle.facts.proofs.Over.{take-over_front}
use Rattle.wire.specs.Written.{Outcome}
use Rattle.tape.specs.Programme.{Showable}
use Rattle.tape.specs.Writable.{are_cells, is_writable}
use Rattle.tape.specs.Tape.{tape_of}
use Rattle.tape.proofs.LawsOfSizes.{length-tape_of}
use Rattle.writer.specs.Write.{is_lent, is_channel, write_tape_of}

pub record Wrote (memory : List ℕ) (channel : ℕ) (o : Outcome) : Type 0 where
  pub showable : Showable memory
  pub value : o.value ≡ length (tape_of memory channel)
  pub bytes : take o.value o.out ≡ tape_of memory channel

pub write_tape_of_wrote : (memory : List ℕ) (channel : ℕ) (out : List ℕ) → (write_tape_of memory channel out).number ≡ 0 → Wrote memory channel (write_tape_of memory channel out)
unfolding write_tape_of
write_tape_of_wrote memory channel out =
    let P : Outcome → Type 0 = λ o. o.number ≡ 0 → Wrote memory channel o in
    pick_cases P (is_lent memory out)
    (λ a. pick_cases P (are_cells memory)
    (λ b. pick_cases P (is_channel channel)
    (λ c. pick_cases P (is_writable memory)
    (λ d e.
    let room = eqb-true (length out) 4096 (and_right (eqb (length memory) 960) _ a) in
    let small = length-tape_of channel memory in
    record {
      showable = record { whole = eqb-true (length memory) 960 (and_left (eqb (length memory) 960) _ a); valid = b; writable = d };
      value = refl;
      bytes = take-over_front out (tape_of memory channel) (length (tape_of memory channel)) refl (omega arith) refl;
    })
    (λ d e. absurd (omega arith)))
    (λ c e. absurd (omega arith)))
    (λ b e. absurd (omega arith)))
    (λ a e. absurd (omega arith))
