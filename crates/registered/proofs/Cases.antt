-- Small programmes by computation: a screen with HI in row 15, and what the register prints of it alone, and of it shown on both channels. Assumes nothing.
use mathlib.Core.Path.{◌≡◌, refl, sym, ap, ◌∙◌}
use mathlib.Core.List.{List, [], ◌∷◌, ◌++◌}
use Prim.Native.Nat.{ℕ, ◌+◌, ◌-◌, ◌≤◌}
use native.Mathlib.Omega.{arith}
use Rattle.facts.specs.Over.{over}
use Rattle.wire.specs.Byte.{is_good, low_seven, sent_of}
use Rattle.wire.specs.Line.{hex_of}
use Rattle.wire.specs.Reel.{pairs_of, reel_of_raw}
use Rattle.cell.specs.Code.{is_code, is_cell}
use Rattle.cell.specs.Pen.{is_pen, unpack_of}
use Rattle.valid.specs.Check.{is_row}
use Rattle.lines.specs.Span.{lead_more_of, end_more_of, lead_of, end_of}
use Rattle.lines.specs.Line.{header, run, lines_of, digit_of, frame_of, row_of, head_of, codes_of, line_of, row_line_of, top_lines_of}
use Rattle.runs.specs.Runs.{empty_screen, seen_of}
use Rattle.runs.proofs.Laws.{text_of_seen_of}
use Rattle.runs.specs.Register.{text_of, register_of}
use Rattle.tape.specs.Item.{edm_item, next_item_of, bytes_of}
use Rattle.tape.specs.Preamble.{style_of, indent_of, preamble_item_of}
use Rattle.tape.specs.Writable.{are_cells, row_pen_of, is_steady, is_cell_of, is_row_writable, is_writable}
use Rattle.tape.specs.Tape.{code_before, rest_of, filled_row_of, row_tape_of, rows_tape_of, loading_of, tape_of}
use Rattle.tape.specs.Programme.{nulls_of, Cue, show, clear, wait, programme_of, Showable, AreFair}
use Rattle.registered.specs.Turns.{turns_from}
use Rattle.registered.proofs.LawsOfSeen.{text_of_one}
use Rattle.registered.proofs.Results.{caption_registered, programme_registered}

pub hi : List ℕ
hi = over empty_screen 896 (0x48 ∷ 0 ∷ 0x49 ∷ 0 ∷ [])

-- 9420 9420 94AE 94AE 9470 9470 C849 942F 942F
hi_tape : tape_of hi 1 ≡ 0x94 ∷ 0x20 ∷ 0x94 ∷ 0x20 ∷ 0x94 ∷ 0xae ∷ 0x94 ∷ 0xae ∷ 0x94 ∷ 0x70 ∷ 0x94 ∷ 0x70 ∷ 0xc8 ∷ 0x49 ∷ 0x94 ∷ 0x2f ∷ 0x94 ∷ 0x2f ∷ []
unfolding hi tape_of loading_of rows_tape_of row_tape_of filled_row_of rest_of code_before next_item_of bytes_of sent_of is_good low_seven preamble_item_of style_of indent_of row_pen_of lead_of end_of lead_more_of end_more_of
hi_tape = refl

hi_showable : Showable hi
unfolding hi are_cells is_row is_cell is_code is_pen unpack_of is_writable is_row_writable row_pen_of is_steady is_cell_of end_of end_more_of
hi_showable = record { whole = refl; valid = refl; writable = refl }

-- "00008 00011 15 4849": nine pairs, so from frame 8 on; two null pairs, so up to frame 11
hi_line : lines_of (run 8 11 hi) ≡ 0x30 ∷ 0x30 ∷ 0x30 ∷ 0x30 ∷ 0x38 ∷ 0x20 ∷ 0x30 ∷ 0x30 ∷ 0x30 ∷ 0x31 ∷ 0x31 ∷ 0x20 ∷ 0x31 ∷ 0x35 ∷ 0x20 ∷ 0x34 ∷ 0x38 ∷ 0x34 ∷ 0x39 ∷ 0x0a ∷ []
unfolding hi top_lines_of row_line_of line_of head_of frame_of row_of digit_of codes_of hex_of lead_of end_of lead_more_of end_more_of
hi_line = refl

pub hi_registered : register_of (reel_of_raw (tape_of hi 1 ++ (nulls_of 2 ++ bytes_of 1 edm_item)))
    ≡ header ++ (0x30 ∷ 0x30 ∷ 0x30 ∷ 0x30 ∷ 0x38 ∷ 0x20 ∷ 0x30 ∷ 0x30 ∷ 0x30 ∷ 0x31 ∷ 0x31 ∷ 0x20 ∷ 0x31 ∷ 0x35 ∷ 0x20 ∷ 0x34 ∷ 0x38 ∷ 0x34 ∷ 0x39 ∷ 0x0a ∷ [])
hi_registered =
    let nine : pairs_of (tape_of hi 1) ≡ 9 = ap pairs_of hi_tape in
    caption_registered hi 2 hi_showable (omega arith) ∙ ap (λ (n : ℕ). header ++ lines_of (run (n - 1) (n + 2) hi)) nine ∙ ap (λ (l : List ℕ). header ++ l) hi_line

-- The same screen is shown on channel 2 in frame 8, which is not seen. Behind its loading on channel 1 it is held for two frames, and stands from frame 19 on. EDM of channel 2 is not
-- seen either; that of channel 1 acts in frame 25.

abbrev pub both : List Cue
both = show hi 2 0 ∷ show hi 1 2 ∷ wait 2 ∷ clear 2 ∷ clear 1 ∷ []

both_pairs : pairs_of (programme_of both) ≡ 26
unfolding hi loading_of rows_tape_of row_tape_of filled_row_of rest_of code_before next_item_of bytes_of sent_of is_good low_seven preamble_item_of style_of indent_of row_pen_of lead_of end_of lead_more_of end_more_of
both_pairs = refl

both_turns : turns_from 0 0 empty_screen both ≡ run 0 18 empty_screen ∷ run 19 24 hi ∷ run 25 26 empty_screen ∷ []
unfolding hi turns_from loading_of rows_tape_of row_tape_of filled_row_of rest_of code_before next_item_of bytes_of sent_of is_good low_seven preamble_item_of style_of indent_of row_pen_of lead_of end_of lead_more_of end_more_of
both_turns = refl

both_fair : AreFair both
both_fair =
    let one : 1 ≤ 1 = omega arith in
    let two : 1 ≤ 2 = omega arith in
    let same : 2 ≤ 2 = omega arith in
    ((hi_showable, (two, same)), ((hi_showable, (one, two)), (tt, ((two, same), ((one, two), tt)))))

both_seen : text_of (seen_of (run 0 18 empty_screen ∷ run 19 24 hi ∷ run 25 26 empty_screen ∷ [])) ≡ lines_of (run 19 24 hi)
unfolding hi
both_seen = text_of_one (run 19 24 hi)

pub both_registered : register_of (reel_of_raw (programme_of both)) ≡ header ++ lines_of (run 19 24 hi)
both_registered =
    let room = both_pairs in
    programme_registered both both_fair (omega arith)
    ∙ ap (λ (l : List ℕ). header ++ l) (ap text_of both_turns ∙ sym (text_of_seen_of (run 0 18 empty_screen ∷ run 19 24 hi ∷ run 25 26 empty_screen ∷ [])) ∙ both_seen)
