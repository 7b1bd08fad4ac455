-- The caption decoder owes the theory nothing: its laws, and what the code computes of an act. Assumes nothing.
use mathlib.Core.Path.{◌≡◌, refl, ap, sym, ◌∙◌}
use mathlib.Core.Bool.{Bool, true, false, ◌&&◌}
use mathlib.Core.List.{List}
use Prim.Native.Nat.{ℕ, ◌+◌, ◌<◌, ◌≤◌}
use native.Mathlib.Omega.{arith}
use lib.Dec.{eqb, leb}
use borrow.Author.Tests.{leb-true, eq-eqb, ne_eqb}
use Rattle.facts.proofs.Choice.{and_left, and_right, same_test}
use Rattle.state.specs.State.{Desk}
use Rattle.decode.specs.Sound.{SoundDesk}
use Rattle.decode.proofs.Laws.{taken_of_acts, taken_of_sound, select_of_acts, select_of_sound, fresh_desk_sound, fresh_desk_acts}
use Rattle.record.proofs.Laws.{length-record_of, read_of_record_of}
use Rattle.valid.proofs.Laws.{is_valid-record_of}
use Rattle.standing.specs.Acts.{Act, pair, select, is_channel, is_formed, act_of, at_act, are_formed, Meant}
use Rattle.standing.specs.Decoder.{Lawful}
use Rattle.standing.proofs.Within.{are_formed_at}
use Rattle.replay.specs.Captions.{step_of, count_of, caption_decoder}
use Rattle.replay.specs.declared.Entry.{Entry}
use Rattle.replay.specs.Entries.{entry}

is_channel_low : (c : ℕ) → is_channel c ≡ true → 1 ≤ c
unfolding is_channel
is_channel_low c e = leb-true 1 c (and_left (leb 1 c) (leb c 2) e)

is_channel_high : (c : ℕ) → is_channel c ≡ true → c ≤ 2
unfolding is_channel
is_channel_high c e = leb-true c 2 (and_right (leb 1 c) (leb c 2) e)

pub step_sound : (d : Desk) (a : Act) → SoundDesk d → d.state.acts < 16000 → Meant a → SoundDesk (step_of d a)
step_sound d (pair x y) h room m = taken_of_sound d x y h room
step_sound d (select c) h room m = select_of_sound d c (is_channel_low c m) (is_channel_high c m) room

pub step_acts : (d : Desk) (a : Act) → count_of (step_of d a) ≡ count_of d + 1
step_acts d (pair x y) = taken_of_acts d x y
step_acts d (select c) = select_of_acts d c

abbrev pub caption_decoder_lawful : Lawful caption_decoder
caption_decoder_lawful = record {
  Sound = SoundDesk;
  fresh_sound = fresh_desk_sound;
  count_fresh = fresh_desk_acts;
  step_keeps_sound = step_sound;
  count_step = λ d a h room m. step_acts d a;
  length-record_of = λ d h. length-record_of d h.captions.cells.size;
  is_valid-record_of = is_valid-record_of;
  read_of_record_of = λ d h. read_of_record_of d;
  spacing_positive = omega arith;
  slots_enough = omega arith;
}

-- What the code computes is what the theory asks.

pub is_channel_is : (c : ℕ) → (leb 1 c && leb c 2) ≡ is_channel c
unfolding is_channel
is_channel_is c = refl

pub is_formed_pair : (kind x y : ℕ) → kind ≡ 1 → true ≡ is_formed kind x y
unfolding is_formed
is_formed_pair kind x y e = rw e

pub is_formed_select : (kind x y : ℕ) {ok : Bool} → kind ≡ 2 → ok ≡ is_channel x → (ok && eqb y 0) ≡ is_formed kind x y
unfolding is_formed
is_formed_select kind x y e same = rw e (ap (λ (ok : Bool). ok && eqb y 0) same)

pub is_formed_neither : (kind x y : ℕ) → (kind ≡ 1 → ⊥) → (kind ≡ 2 → ⊥) → false ≡ is_formed kind x y
unfolding is_formed
is_formed_neither kind x y n m = rw (ne_eqb kind 1 n, ne_eqb kind 2 m)

-- what is said of three bytes of the log is said of the entry that they are read as
pub of_entry : {A : Type 0} (f : ℕ → ℕ → ℕ → A) (l : List ℕ) (n : ℕ) {e : Entry} → e ≡ at_act entry l n → f e.kind e.first e.second ≡ at_act f l n
of_entry f l n p = ap (λ (e : Entry). f e.kind e.first e.second) p

-- one act that is not well formed, and they are not all
pub are_formed_broken : (l : List ℕ) (from count n : ℕ) → n < count → at_act is_formed l (from + n) ≡ false → false ≡ are_formed l from count
are_formed_broken l from count n h e = same_test false (are_formed l from count) (λ t. cc) (λ t. sym e ∙ are_formed_at l from count n t h)

pub act_of_pair : (kind x y : ℕ) → kind ≡ 1 → pair x y ≡ act_of kind x y
unfolding act_of
act_of_pair kind x y e = rw (eq-eqb kind 1 e)

pub act_of_select : (kind x y : ℕ) → (kind ≡ 1 → ⊥) → select x ≡ act_of kind x y
unfolding act_of
act_of_select kind x y e = rw (ne_eqb kind 1 e)
