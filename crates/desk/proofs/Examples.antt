-- The paper's worked examples P1 to P13, and windows at the top (paper 02, request 4), proved about the definitions by one statement over one list. Assumes nothing.
use mathlib.Core.Path.{◌≡◌, refl, ap, ◌∙◌}
use mathlib.Core.Bool.{Bool, true, false, ◌&&◌}
use mathlib.Core.List.{List, [], ◌∷◌, map}
use native.Mathlib.Omega.{arith}
use Prim.Native.Nat.{ℕ, ◌+◌, ◌-◌, ◌*◌, ◌/◌, ◌%◌}
use lib.Dec.{eqb}
use lib.ListN.{replicate}
use Rattle.facts.specs.Over.{over}
use Rattle.wire.specs.Byte.{is_good, low_seven}
use Rattle.cell.specs.Pen.{pack_of, unpack_of, after_mid_row, of_preamble, flashing}
use Rattle.cell.specs.Cursor.{after_write_of, back_of, tab_of, preamble_column_of}
use Rattle.codes.specs.Rows.{preamble_row_of}
use Rattle.codes.specs.Codes.{channel_of, without_channel_of, mid_row_or_special_of, tab_offset_of, preamble_code_of, channel_one_code_of, code_of}
use Rattle.page.specs.Page.{write_cell_of, empty_cell_of, empty_from_of, empty_rows_of, empty_all_of, exchanged_of}
use Rattle.window.specs.Window.{lowered_of, roll_of, empty_outside_of, move_of}
use Rattle.state.specs.State.{Desk}
use Rattle.state.specs.Style.{is_ready, cursor_of, with_cursor, memory_of}
use Rattle.typing.specs.Typing.{write_of, turned_of, attribute_of, mid_row_of, fon_of}
use Rattle.placing.specs.Placing.{bs_of, der_of, tabbed_of, moved_of, preamble_of}
use Rattle.styles.specs.Styles.{rcl_of, rdc_of, text_of, edm_of, enm_of, eoc_of}
use Rattle.rollup.specs.Rollup.{opened_of, framed_of, ru_of, cr_of}
use Rattle.acts.specs.Act.{gated, act_of}
use Rattle.decode.specs.Pair.{cleared_of, type_of, as_text_of, rule_one_of, rule_two_of, control_of, rule_three_of, rule_four_of, pair_of}
use Rattle.decode.specs.Step.{taken_of, fresh_desk}
use Rattle.standing.specs.Acts.{pair, is_channel}
use Rattle.standing.specs.Calls.{opened}
use Rattle.standing.specs.Runs.{Ask, give, back, mine, after, owed, ruled}
use Rattle.standing.specs.Bytes.{desk_of, buffers_of}
use Rattle.standing.proofs.Runs.{AllBytes, fair_own}
use Rattle.standing.proofs.Standing.{what_stands_is, stands_by_rule, same_standing}
use Rattle.replay.specs.Captions.{caption_decoder}
use Rattle.replay.proofs.Laws.{caption_decoder_lawful}

-- calls on a newly opened desk; then all that the cells hold, as places with the bytes from there on, the style, and the style's row and column
record Example : Type 0 where
  asks : List Ask
  cells : List (ℕ × List ℕ)
  style : ℕ
  row : ℕ
  column : ℕ

-- the desk after the acts that stand when the calls have been made
shown_by : List Ask → Desk
shown_by asks = desk_of caption_decoder (ruled caption_decoder [] (map mine asks))

-- empty cells but for what is listed
filled : List (ℕ × List ℕ) → List ℕ
filled [] = replicate 1920 0
filled (w ∷ ws) = over (filled ws) w.0 w.1

same : List ℕ → List ℕ → Bool
same [] [] = true
same [] (y ∷ ys) = false
same (x ∷ xs) [] = false
same (x ∷ xs) (y ∷ ys) = eqb x y && same xs ys

holds : Example → Bool
holds e =
    let d = shown_by e.asks in
    let c = cursor_of d.state.mode in
    same d.cells (filled e.cells) && eqb d.state.mode.style e.style && eqb c.row.0 e.row && eqb c.column.0 e.column

all_hold : List Example → Bool
all_hold [] = true
all_hold (e ∷ es) = holds e && all_hold es

abbrev shows : List Ask → List (ℕ × List ℕ) → ℕ → ℕ → ℕ → Example
shows asks cells style row column = record { asks = asks; cells = cells; style = style; row = row; column = column }

abbrev takes : List ℕ → List Ask
takes [] = []
takes (p ∷ ps) = give (pair (p / 256) (p % 256)) ∷ takes ps

-- where rows begin, and "48 49" with a plain pen
abbrev shown : ℕ → ℕ
shown row = (row - 1) * 64

abbrev hidden : ℕ → ℕ
hidden row = 960 + (row - 1) * 64

abbrev hi : List ℕ
hi = 0x48 ∷ 0 ∷ 0x49 ∷ 0 ∷ []

-- P13: "take 9420, C849, back 1, take 43C4: bytes as after 9420 43C4"
abbrev stepped_back : List Ask
stepped_back = give (pair 0x94 0x20) ∷ give (pair 0xc8 0x49) ∷ back 1 ∷ give (pair 0x43 0xc4) ∷ []

abbrev never_taken : List Ask
never_taken = takes (0x9420 ∷ 0x43c4 ∷ [])

abbrev examples : List Example
examples =
    -- P1
    shows (takes (0x9420 ∷ 0x9420 ∷ 0xc849 ∷ [])) ((hidden 15, hi) ∷ []) 2 15 3
    -- P2, after frames 6 and 7
    ∷ shows (takes (0x9420 ∷ 0x9420 ∷ 0x9470 ∷ 0x9470 ∷ 0xc849 ∷ 0x942f ∷ [])) ((shown 15, hi) ∷ []) 2 15 3
    ∷ shows (takes (0x9420 ∷ 0x9420 ∷ 0x9470 ∷ 0x9470 ∷ 0xc849 ∷ 0x942f ∷ 0x942f ∷ [])) ((shown 15, hi) ∷ []) 2 15 3
    -- P3, and with a third carriage return
    ∷ shows (takes (0x9425 ∷ 0xc849 ∷ 0x94ad ∷ 0x94ad ∷ [])) ((shown 14, hi) ∷ []) 1 15 1
    ∷ shows (takes (0x9425 ∷ 0xc849 ∷ 0x94ad ∷ 0x94ad ∷ 0x94ad ∷ [])) [] 1 15 1
    -- P4: columns 29 to 32
    ∷ shows (takes (0x9420 ∷ 0x94fe ∷ 0xc1c2 ∷ 0x43c4 ∷ 0x4580 ∷ [])) ((hidden 15 + 56, 0x41 ∷ 0 ∷ 0x42 ∷ 0 ∷ 0x43 ∷ 0 ∷ 0x45 ∷ 0 ∷ []) ∷ []) 2 15 32
    -- P5
    ∷ shows (takes (0x9420 ∷ 0x4849 ∷ [])) ((hidden 15, 0x7f ∷ 0 ∷ 0x49 ∷ 0 ∷ []) ∷ []) 2 15 3
    -- P6, and across a null
    ∷ shows (takes (0x9420 ∷ 0x1420 ∷ [])) [] 2 15 1
    ∷ shows (takes (0x9420 ∷ 0x8080 ∷ 0x1420 ∷ [])) ((hidden 15, 0x7f ∷ 0 ∷ 0x20 ∷ 0 ∷ []) ∷ []) 2 15 3
    -- P7
    ∷ shows (takes (0x9420 ∷ 0x1c20 ∷ 0xc849 ∷ [])) [] 2 15 1
    -- P8
    ∷ shows (takes (0x9420 ∷ 0x91a8 ∷ 0x912f ∷ 0x94a8 ∷ 0xc180 ∷ [])) ((hidden 15, 0x80 ∷ 0x04 ∷ 0x80 ∷ 0x1c ∷ 0x80 ∷ 0x3c ∷ 0x41 ∷ 0x3c ∷ []) ∷ []) 2 15 5
    -- P9
    ∷ shows (takes (0x9425 ∷ 0xc849 ∷ 0x9420 ∷ 0x9425 ∷ [])) ((shown 15, hi) ∷ []) 1 15 3
    -- P10
    ∷ shows (takes (0x9425 ∷ 0xc849 ∷ 0x94ad ∷ 0xc849 ∷ 0x9770 ∷ [])) ((shown 9, hi) ∷ (shown 10, hi) ∷ []) 1 10 1
    -- P11
    ∷ shows (takes (0x9420 ∷ 0x94a1 ∷ [])) [] 2 15 1
    -- P12
    ∷ shows (takes (0x9420 ∷ 0x10e0 ∷ [])) [] 2 15 1
    -- P13, and what it is like
    ∷ shows stepped_back ((hidden 15, 0x43 ∷ 0 ∷ 0x44 ∷ 0 ∷ []) ∷ []) 2 15 3
    ∷ shows never_taken ((hidden 15, 0x43 ∷ 0 ∷ 0x44 ∷ 0 ∷ []) ∷ []) 2 15 3
    -- request 4: RU4 at row 2 and four lines, "A" to "D", on rows 1 to 4
    ∷ shows (takes (0x94a7 ∷ 0x9170 ∷ 0xc180 ∷ 0x94ad ∷ 0xc280 ∷ 0x94ad ∷ 0x4380 ∷ 0x94ad ∷ 0xc480 ∷ []))
    ((shown 1, 0x41 ∷ []) ∷ (shown 2, 0x42 ∷ []) ∷ (shown 3, 0x43 ∷ []) ∷ (shown 4, 0x44 ∷ []) ∷ []) 1 4 2
    -- RU2 at row 2 and RU4 after a tab: the line goes down with the base row, the column stays; RU4 at row 2 and RU2: the base row stays
    ∷ shows (takes (0x9425 ∷ 0x9170 ∷ 0xc849 ∷ 0x97a1 ∷ 0x94a7 ∷ [])) ((shown 4, hi) ∷ []) 1 4 4
    ∷ shows (takes (0x94a7 ∷ 0x9170 ∷ 0xc849 ∷ 0x9425 ∷ [])) ((shown 4, hi) ∷ []) 1 4 3
    -- pop-on while the mark is set: row 1 as it is
    ∷ shows (takes (0x94a7 ∷ 0x9420 ∷ 0x91d0 ∷ 0xc849 ∷ [])) ((hidden 1, hi) ∷ []) 2 1 3
    ∷ []

all_hold_lem : all_hold examples ≡ true
unfolding all_hold holds same filled shown_by owed is_channel is_good low_seven pack_of unpack_of after_mid_row of_preamble flashing after_write_of back_of tab_of preamble_column_of preamble_row_of channel_of without_channel_of mid_row_or_special_of tab_offset_of preamble_code_of channel_one_code_of code_of write_cell_of empty_cell_of empty_from_of empty_rows_of empty_all_of exchanged_of lowered_of roll_of empty_outside_of move_of is_ready cursor_of with_cursor memory_of write_of turned_of attribute_of mid_row_of fon_of bs_of der_of tabbed_of moved_of preamble_of rcl_of rdc_of text_of edm_of enm_of eoc_of opened_of framed_of ru_of cr_of gated act_of cleared_of type_of as_text_of rule_one_of rule_two_of control_of rule_three_of rule_four_of pair_of taken_of fresh_desk
all_hold_lem = refl

-- the desk's record after the calls of an example is that of the desk it speaks of, and log and tray are those of the acts that stand
pub shown_by_record : (asks : List Ask) → AllBytes asks → after caption_decoder (opened caption_decoder) (map mine asks) ≡ buffers_of caption_decoder (ruled caption_decoder [] (map mine asks))
shown_by_record asks bytes =
    let fair = fair_own caption_decoder (opened caption_decoder) asks bytes in
    what_stands_is caption_decoder caption_decoder_lawful (map mine asks) fair
    ∙ ap (buffers_of caption_decoder) (stands_by_rule caption_decoder caption_decoder_lawful (map mine asks) fair)

-- P13, of all three buffers
pub stepped_back_lem : after caption_decoder (opened caption_decoder) (map mine stepped_back) ≡ after caption_decoder (opened caption_decoder) (map mine never_taken)
unfolding owed
stepped_back_lem =
    same_standing caption_decoder caption_decoder_lawful (map mine stepped_back) (map mine never_taken)
    (fair_own caption_decoder (opened caption_decoder) stepped_back (omega arith)) (fair_own caption_decoder (opened caption_decoder) never_taken (omega arith)) refl
