-- What the writer of tapes leaves: the tape of a screen that can be written, and nothing of any other; and the room that a cue has. Assumes nothing.
use mathlib.Core.Path.{◌≡◌, refl, sym, ap, ◌∙◌}
use mathlib.Core.Bool.{Bool, true, false, ◌&&◌}
use mathlib.Core.List.{List}
use Prim.Native.Nat.{ℕ, ◌+◌, ◌*◌, ◌/◌, ◌≤◌}
use native.Mathlib.Omega.{arith}
use lib.ListN.{length, take, length-append}
use borrow.Author.Tests.{eq-eqb, le-leb}
use Rattle.facts.specs.Choice.{pick}
use Rattle.facts.specs.Over.{over}
use Rattle.facts.proofs.Over.{take-over_front}
use Rattle.wire.specs.Reel.{pairs_of}
use Rattle.wire.specs.Written.{Outcome, outcome}
use Rattle.wire.proofs.LawsOfReel.{pairs_of_half, length-reel_of_raw}
use Rattle.tape.specs.Writable.{are_cells, is_writable}
use Rattle.tape.specs.Item.{eoc_item, bytes_of}
use Rattle.tape.specs.Tape.{loading_of, tape_of}
use Rattle.tape.specs.Programme.{Cue, programme_of}
use Rattle.tape.proofs.LawsOfSizes.{length-tape_of}
use Rattle.items.proofs.LawsOfLaid.{tail_of, tail_room}
use Rattle.writer.specs.declared.Refusal.{Refusal}
use Rattle.writer.specs.declared.Refusal.TheVariants.{WrongLength, NoSuch, Invalid, NotWritable}
use Rattle.writer.specs.Write.{number_of_refusal, write_tape_of}
use Rattle.frames.specs.Held.{held_of}
use Rattle.steps.proofs.LawsOfCues.{Cued, length_eoc}

pub record Sized (raw : List ℕ) : Type 0 where
  pub low : 4 ≤ length raw
  pub high : length raw ≤ 4096
  pub pairs : length raw / 2 ≡ pairs_of raw

pub sized_tape : (memory : List ℕ) (channel : ℕ) → Sized (tape_of memory channel)
unfolding tape_of
sized_tape memory channel =
    record {
      low = omega (arith, length-append (loading_of memory channel) (bytes_of channel eoc_item), length_eoc channel);
      high = omega (arith, length-tape_of channel memory);
      pairs = omega (arith, pairs_of_half (tape_of memory channel));
    }

-- there is room for what is held up to frame 16,000
pub cue_room : (raw : List ℕ) (held : ℕ) (new : List Cue) (frames : ℕ) (out : List ℕ) → Cued raw held new → frames + pairs_of raw + held ≤ 16000 → length out ≡ 80000
    → length (held_of raw held) ≤ length (tail_of out (frames * 5))
cue_room raw held new frames out c h e = tail_room out (frames * 5) _ (omega (arith, ap length c.lines ∙ length-reel_of_raw (programme_of new), c.count))

-- The tape, or none.

pub record Wrote (memory : List ℕ) (channel value : ℕ) (left : List ℕ) : Type 0 where
  pub fit : (are_cells memory && is_writable memory) ≡ true
  pub room : value ≤ 4096
  pub tape : take value left ≡ tape_of memory channel

wrote_ways : (a b : Bool) (out : List ℕ) {number value n : ℕ} {left o : List ℕ} → outcome number value left ≡ pick a (pick b (outcome 0 n o) (outcome 7 0 out)) (outcome 6 0 out)
    → ((number ≡ 0 → ⊥) → (a && b) ≡ false) × (number ≡ 0 → ((a && b) ≡ true) × (value ≡ n) × (left ≡ o))
wrote_ways true true out e = (λ some. absurd (some (ap (λ (o : Outcome). o.number) e)), λ z. (refl, ap (λ (o : Outcome). o.value) e, ap (λ (o : Outcome). o.out) e))
wrote_ways true false out e = let n = ap (λ (o : Outcome). o.number) e in (λ some. refl, λ z. absurd (omega arith))
wrote_ways false b out e = let n = ap (λ (o : Outcome). o.number) e in (λ some. refl, λ z. absurd (omega arith))

-- a refusal has a number
pub some_refusal : (refusal : Refusal) → number_of_refusal refusal ≡ 0 → ⊥
some_refusal WrongLength e = omega arith
some_refusal NoSuch e = omega arith
some_refusal Invalid e = omega arith
some_refusal NotWritable e = omega arith

module _ (memory out : List ℕ) (channel : ℕ) (size : length memory ≡ 960) (room : length out ≡ 4096) (low : 1 ≤ channel) (high : channel ≤ 2)
    {number value : ℕ} {left : List ℕ} (e : outcome number value left ≡ write_tape_of memory channel out) where
  ways : ((number ≡ 0 → ⊥) → (are_cells memory && is_writable memory) ≡ false)
      × (number ≡ 0 → ((are_cells memory && is_writable memory) ≡ true) × (value ≡ length (tape_of memory channel)) × (left ≡ over out 0 (tape_of memory channel)))
  unfolding write_tape_of
  ways = wrote_ways (are_cells memory) (is_writable memory) out (rw (eq-eqb (length memory) 960 size, eq-eqb (length out) 4096 room, le-leb 1 channel low, le-leb channel 2 high) at e)

  pub wrote_none : (number ≡ 0 → ⊥) → (are_cells memory && is_writable memory) ≡ false
  wrote_none = ways.0

  pub wrote_some : number ≡ 0 → Wrote memory channel value left
  wrote_some done =
      let w = ways.1 done in
      let n = w.1 in
      let z = (sized_tape memory channel).high in
      record { fit = w.0; room = omega arith; tape = take-over_front out (tape_of memory channel) value (sym n) (omega arith) w.2 }
