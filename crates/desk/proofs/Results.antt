-- The archive's three demands and its requests 2 and 4, as they stand here, each proved by a citation. The register's part of demand 2 stands with the register.
-- Assumes nothing.
use mathlib.Core.Path.{◌≡◌}
use mathlib.Core.Bool.{true}
use mathlib.Core.List.{List, []}
use Prim.Native.Nat.{ℕ, ◌-◌, ◌/◌, ◌<◌, ◌≤◌}
use lib.Dec.{leb, ltb}
use lib.ListN.{length, get_or}
use Rattle.facts.specs.Choice.{pick}
use Rattle.cell.specs.Place.{row_number}
use Rattle.state.specs.State.{Desk, Fits}
use Rattle.decode.specs.Step.{taken_of}
use Rattle.record.specs.Layout.{state_of, read_of, record_of, are_counted, Counted, count_at, fresh_record}
use Rattle.record.proofs.Laws.{read_of_record_of, are_counted-record_of}
use Rattle.valid.specs.Valid.{is_valid}
use Rattle.valid.proofs.Laws.{record_of_read_of, miscounted_is_valid, is_valid_fits, misfit_is_valid}
use Rattle.standing.specs.Acts.{Act, is_allowed}
use Rattle.standing.specs.Calls.{Buffers, gives, opened, refused, is_fit, start_of, is_replayable, open_of, give_of, take_of, back_of}
use Rattle.standing.specs.Runs.{Ask, back, InBytes, Call, call_of, after, Fair, alone, standing}
use Rattle.standing.proofs.Runs.{refusal}
use Rattle.standing.proofs.Standing.{what_stands_remains}
use Rattle.replay.specs.Captions.{count_of, caption_decoder}
use Rattle.replay.proofs.Laws.{caption_decoder_lawful}
use Rattle.desk.proofs.Laws.{open_of_number, give_of_number, back_of_number, take_of_desk}
use Rattle.desk.specs.Looks.{row_of, view_of}
use Rattle.desk.proofs.LawsOfRecords.{call_leaves, run-leaves, call_keeps_valid, invalid_call, invalid_row, invalid_view, invalid_start, row_of_count, opened_fresh}

-- DEMAND 1. "every call takes every input and ends": no public call of this crate has a requires, and each is proved to end.
-- "a wrong length, a wrong channel, a damaged record, a full log or a step back too far gets the numbered refusal of the paper, exactly then":
pub open_refused_when : (w : Buffers) → (open_of caption_decoder w.desk w.log w.tray).given.number ≡ pick (is_fit caption_decoder w) 0 1
open_refused_when = open_of_number

pub act_refused_when : (w : Buffers) (a : Act) → (give_of caption_decoder w a).given.number
    ≡ pick (is_fit caption_decoder w) (pick (is_valid w.desk) (pick (is_allowed a) (pick (ltb (count_of (read_of w.desk)) 16000) 0 3) 2) 6) 1
act_refused_when = give_of_number

pub back_refused_when : (w : Buffers) (k : ℕ) → (back_of caption_decoder w.desk w.log w.tray k).given.number
    ≡ pick (is_fit caption_decoder w)
    (pick (is_valid w.desk)
    (pick (leb k (count_of (read_of w.desk))) (pick (is_replayable caption_decoder w.log w.tray (count_of (read_of w.desk) - k)) 0 6) 4) 6)
    1
back_refused_when = back_of_number

-- "and each lent buffer keeps its bytes."
pub refusal_keeps_bytes : (w : Buffers) (a : Ask) → ((call_of caption_decoder w a).given.number ≡ 0 → ⊥)
    → call_of caption_decoder w a ≡ refused (call_of caption_decoder w a).given.number w
refusal_keeps_bytes = refusal caption_decoder

-- DEMAND 2. "After each pair both caption memories, the cursors, the pens and the style are what the paper says": the record holds the desk after the pair rules.
pub after_each_pair : (w : Buffers) (x y : ℕ) → is_fit caption_decoder w ≡ true → is_valid w.desk ≡ true → count_of (read_of w.desk) < 16000
    → (take_of caption_decoder w.desk w.log w.tray x y).left.desk ≡ record_of (taken_of (read_of w.desk) x y)
after_each_pair = take_of_desk

-- ".. records are read and written to the paper's layout and come back unchanged"
pub desk_comes_back : (d : Desk) → read_of (record_of d) ≡ d
desk_comes_back = read_of_record_of

pub record_comes_back : (bs : List ℕ) → is_valid bs ≡ true → get_or bs 0 0 < 256 → record_of (read_of bs) ≡ bs
record_comes_back = record_of_read_of

-- DEMAND 3. "From a newly opened desk, after any run of pairs, channel selections and steps back, refused calls among them, with its own three buffers lent to
-- every call that is not refused and nobody else writing to them, desk, log and tray hold byte for byte what a newly opened desk would hold had it been given
-- only the pairs and selections that still stand; a step back by k removes the last k of those standing."
pub what_stands : (cs : List Call) → Fair caption_decoder (opened caption_decoder) cs
    → after caption_decoder (opened caption_decoder) cs ≡ after caption_decoder (opened caption_decoder) (alone (standing caption_decoder (opened caption_decoder) [] cs))
what_stands = what_stands_remains caption_decoder caption_decoder_lawful

-- REQUEST 2 of paper 02. "Keep the counts in the record ..; every act keeps them right." After every pair, selection and step back, a refused one too, they are;
-- and so after any run of these:
pub every_act_keeps_counts : (w : Buffers) (a : Ask) → are_counted w.desk ≡ true → are_counted (call_of caption_decoder w a).left.desk ≡ true
every_act_keeps_counts = call_leaves (λ (d : List ℕ). are_counted d ≡ true) are_counted-record_of

pub every-run_keeps_counts : (w : Buffers) (cs : List Call) → are_counted w.desk ≡ true → are_counted (after caption_decoder w cs).desk ≡ true
every-run_keeps_counts = run-leaves (λ (d : List ℕ). are_counted d ≡ true) are_counted-record_of

-- "A record is valid only if they are." One wrong count of the thirty, too high or too low, is 6 in every call, and no byte is touched:
pub wrong_count_refused : (k : ℕ) → k < 30 → (w : Buffers) (a : Ask) → is_fit caption_decoder w ≡ true → (Counted w.desk k → ⊥) → call_of caption_decoder w a ≡ refused 6 w
wrong_count_refused k h w a fit wrong = invalid_call w a fit (miscounted_is_valid w.desk k h wrong)

pub wrong_count_in_slot_refused : (k : ℕ) → k < 30 → (w : Buffers) (n : ℕ) → is_fit caption_decoder w ≡ true → is_valid w.desk ≡ true → n ≤ count_of (read_of w.desk)
    → (Counted (start_of caption_decoder w.tray ((count_of (read_of w.desk) - n) / 1000)) k → ⊥) → call_of caption_decoder w (back n) ≡ refused 6 w
wrong_count_in_slot_refused k h w n fit valid most wrong = invalid_start w n fit valid most (miscounted_is_valid _ k h wrong)

pub wrong_count_not_counted : (k : ℕ) → k < 30 → (d : List ℕ) (row : ℕ) → length d ≡ 1984 → (Counted d k → ⊥) → row_of d row ≡ gives 6 0
wrong_count_not_counted k h d row size wrong = invalid_row d row size (miscounted_is_valid d k h wrong)

pub wrong_count_not_viewed : (k : ℕ) → k < 30 → (d : List ℕ) → (Counted d k → ⊥) → view_of d ≡ []
wrong_count_not_viewed k h d wrong = invalid_view d (miscounted_is_valid d k h wrong)

-- "how many cells of each row are filled": what the row call gives is the byte of that row
pub row_gives_count : (d : List ℕ) (row : ℕ) → is_valid d ≡ true → 1 ≤ row → row ≤ 15 → row_of d row ≡ gives 0 (count_at d (row_number row))
row_gives_count = row_of_count

-- "the fresh record is unchanged": zeros but for channel 1, rows 15, columns 1
pub fresh_record_unchanged : (opened caption_decoder).desk ≡ fresh_record
fresh_record_unchanged = opened_fresh

-- REQUEST 4 of paper 02. "A valid record with the mark set has its base row no smaller than its depth."
pub valid_record_fits : (d : List ℕ) → is_valid d ≡ true → Fits (state_of d).mode
valid_record_fits = is_valid_fits

-- Every pair, selection and step back keeps that, from any valid desk, reached by a run or not: it leaves a valid one.
pub every_call_keeps_valid : (w : Buffers) (a : Ask) → is_valid w.desk ≡ true → ((i : ℕ) → get_or w.log i 0 < 256) → InBytes a
    → is_valid (call_of caption_decoder w a).left.desk ≡ true
every_call_keeps_valid = call_keeps_valid

-- A base row that is too small for its depth, with the mark set, is 6 in every call, and no byte is touched:
pub misfit_refused : (w : Buffers) (a : Ask) → is_fit caption_decoder w ≡ true → (Fits (state_of w.desk).mode → ⊥) → call_of caption_decoder w a ≡ refused 6 w
misfit_refused w a fit wrong = invalid_call w a fit (misfit_is_valid w.desk wrong)

pub misfit_in_slot_refused : (w : Buffers) (n : ℕ) → is_fit caption_decoder w ≡ true → is_valid w.desk ≡ true → n ≤ count_of (read_of w.desk)
    → (Fits (state_of (start_of caption_decoder w.tray ((count_of (read_of w.desk) - n) / 1000))).mode → ⊥) → call_of caption_decoder w (back n) ≡ refused 6 w
misfit_in_slot_refused w n fit valid most wrong = invalid_start w n fit valid most (misfit_is_valid _ wrong)

pub misfit_not_counted : (d : List ℕ) (row : ℕ) → length d ≡ 1984 → (Fits (state_of d).mode → ⊥) → row_of d row ≡ gives 6 0
misfit_not_counted d row size wrong = invalid_row d row size (misfit_is_valid d wrong)

pub misfit_not_viewed : (d : List ℕ) → (Fits (state_of d).mode → ⊥) → view_of d ≡ []
misfit_not_viewed d wrong = invalid_view d (misfit_is_valid d wrong)
