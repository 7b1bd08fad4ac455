-- What the calls leave in the desk's record, and what they say of an invalid record in the desk or in a slot. Assumes nothing.
use mathlib.Core.Path.{◌≡◌, refl, ap, sym}
use mathlib.Core.Bool.{Bool, true, false, ◌&&◌}
use mathlib.Core.List.{List, [], ◌∷◌}
use Prim.Native.Nat.{ℕ, ◌-◌, ◌*◌, ◌/◌, ◌<◌, ◌≤◌}
use native.Mathlib.Omega.{arith}
use lib.Dec.{eqb}
use lib.ListN.{length, get_or}
use borrow.Author.Tests.{eq-eqb, le-leb}
use Rattle.cell.specs.Place.{row_number}
use Rattle.state.specs.State.{Desk}
use Rattle.record.specs.Layout.{read_of, record_of, count_at, fresh_record}
use Rattle.record.proofs.Laws.{record_of-fresh_desk}
use Rattle.valid.specs.Valid.{is_valid}
use Rattle.valid.proofs.Laws.{is_valid-length, is_valid_sound, is_valid-record_of, is_valid_count}
use Rattle.standing.specs.Acts.{are_formed}
use Rattle.standing.specs.Calls.{Buffers, three, gives, Outcome, refused, is_fit, opened, acted_of, start_of, is_start, is_replayable, restored_of, stepped_of}
use Rattle.standing.specs.Runs.{Ask, give, back, InBytes, own, other, Call, call, lent_of, call_of, called, after}
use Rattle.standing.proofs.Runs.{call_cases}
use Rattle.standing.proofs.Steps.{asked_meant}
use Rattle.standing.proofs.Within.{is_start_valid, is_start_count, is_replayable_start, is_replayable_formed, replay_keeps_sound}
use Rattle.standing.proofs.Ways.{give_invalid, back_invalid, back_broken}
use Rattle.replay.specs.Captions.{count_of, caption_decoder}
use Rattle.replay.proofs.Laws.{step_sound, caption_decoder_lawful}
use Rattle.desk.specs.Looks.{look_of, row_of, view_of}

-- What a call leaves in the desk is what stood there, or a record just written: P holds of it if it holds of both.
module _ (P : List ℕ → Type 0) (written : (d : Desk) → P (record_of d)) where
  pub call_leaves : (w : Buffers) (a : Ask) → P w.desk → P (call_of caption_decoder w a).left.desk
  unfolding acted_of stepped_of
  call_leaves w a held = call_cases caption_decoder w (λ (a : Ask) (o : Outcome). P o.left.desk) (λ a number. held) (λ b allowed room. written _) (λ k there. written _) a

  -- and so behind any run, whatever is lent to its calls
  pub run-leaves : (w : Buffers) (cs : List Call) → P w.desk → P (after caption_decoder w cs).desk
  run-leaves w [] held = held
  run-leaves w (call a own l t ∷ cs) held =
      run-leaves (called caption_decoder w (call a own l t)) cs
      (call_leaves (three w.desk (lent_of l w.log) (lent_of t w.tray)) a held)
  run-leaves w (call a (other bytes) l t ∷ cs) held = run-leaves (called caption_decoder w (call a (other bytes) l t)) cs held

-- From a valid desk, log and pair in bytes, every call leaves a valid one: an act keeps a desk sound, and so do the acts of a step back.
pub call_keeps_valid : (w : Buffers) (a : Ask) → is_valid w.desk ≡ true → ((i : ℕ) → get_or w.log i 0 < 256) → InBytes a
    → is_valid (call_of caption_decoder w a).left.desk ≡ true
unfolding acted_of stepped_of restored_of
call_keeps_valid w a valid bytes =
    let sound = is_valid_sound w.desk valid in
    call_cases caption_decoder w (λ (a : Ask) (o : Outcome). InBytes a → is_valid o.left.desk ≡ true)
    (λ a number b. valid)
    (λ a allowed room b. is_valid-record_of _ (step_sound (read_of w.desk) a sound room (asked_meant a b allowed)))
    (λ k there b.
    let m = count_of (read_of w.desk) - k in
    let s = m / 1000 in
    let start = start_of caption_decoder w.tray s in
    let first = is_replayable_start caption_decoder w.log w.tray m s refl there in
    let formed = is_replayable_formed caption_decoder w.log w.tray m s refl there in
    let n = is_start_count caption_decoder start s first in
    let acts = sound.acts in
    is_valid-record_of _
    (replay_keeps_sound caption_decoder caption_decoder_lawful (read_of start) w.log (s * 1000) (m - s * 1000)
    (is_valid_sound start (is_start_valid caption_decoder start s first)) (omega arith) bytes formed (m - s * 1000) (omega arith)).0)
    a

-- An invalid record: 6, and no byte touched.
pub invalid_call : (w : Buffers) (a : Ask) → is_fit caption_decoder w ≡ true → is_valid w.desk ≡ false → call_of caption_decoder w a ≡ refused 6 w
unfolding call_of
invalid_call w (give a) fit wrong = sym (give_invalid caption_decoder w fit wrong a)
invalid_call w (back n) fit wrong = sym (back_invalid caption_decoder w fit wrong n)

pub invalid_row : (d : List ℕ) (row : ℕ) → length d ≡ 1984 → is_valid d ≡ false → row_of d row ≡ gives 6 0
unfolding row_of look_of
invalid_row d row size wrong = rw (eq-eqb (length d) 1984 size, wrong)

pub invalid_view : (d : List ℕ) → is_valid d ≡ false → view_of d ≡ []
unfolding view_of
invalid_view d wrong = rw wrong

-- in the slot that the start is
pub invalid_start : (w : Buffers) (n : ℕ) → is_fit caption_decoder w ≡ true → is_valid w.desk ≡ true → n ≤ count_of (read_of w.desk)
    → is_valid (start_of caption_decoder w.tray ((count_of (read_of w.desk) - n) / 1000)) ≡ false → call_of caption_decoder w (back n) ≡ refused 6 w
unfolding call_of is_replayable is_start
invalid_start w n fit valid most wrong =
    let m = count_of (read_of w.desk) - n in
    let s = m / 1000 in
    let start = start_of caption_decoder w.tray s in
    sym (back_broken caption_decoder w fit valid (count_of (read_of w.desk)) refl n most
    (ap (λ (t : Bool). t && eqb (count_of (read_of start)) (s * 1000) && are_formed w.log (s * 1000) (m - s * 1000)) wrong))

-- the row call gives the byte of its row
pub row_of_count : (d : List ℕ) (row : ℕ) → is_valid d ≡ true → 1 ≤ row → row ≤ 15 → row_of d row ≡ gives 0 (count_at d (row_number row))
unfolding row_of look_of
row_of_count d row valid low high =
    rw (eq-eqb (length d) 1984 (is_valid-length d valid), valid, le-leb 1 row low, le-leb row 15 high) (ap (gives 0) (sym (is_valid_count d (row_number row) valid low high)))

pub opened_fresh : (opened caption_decoder).desk ≡ fresh_record
unfolding opened
opened_fresh = record_of-fresh_desk
