-- The registers of small reels by computation: the paper's own, an empty one, one with a bad third line, one with an unfinished last line. Assumes nothing.
use mathlib.Core.Path.{◌≡◌, refl, ap, ◌∙◌}
use mathlib.Core.List.{List, [], ◌∷◌, ◌++◌}
use Prim.Native.Nat.{ℕ, ◌+◌, ◌/◌, ◌%◌}
use native.Mathlib.Omega.{arith}
use lib.ListN.{length, get_or-replicate}
use Rattle.facts.specs.Over.{over}
use Rattle.facts.proofs.Over.{before_over}
use Rattle.wire.specs.Byte.{is_good, low_seven}
use Rattle.wire.specs.Line.{digit_of, hex_of, judge_of, line_at, line_of}
use Rattle.cell.specs.Pen.{pack_of, unpack_of, after_mid_row, of_preamble, flashing}
use Rattle.cell.specs.Cursor.{after_write_of, back_of, tab_of, preamble_column_of}
use Rattle.codes.specs.Rows.{preamble_row_of}
use Rattle.codes.specs.Codes.{channel_of, without_channel_of, mid_row_or_special_of, tab_offset_of, preamble_code_of, channel_one_code_of, code_of}
use Rattle.page.specs.Page.{write_cell_of, empty_cell_of, empty_from_of, empty_rows_of, empty_all_of, exchanged_of}
use Rattle.window.specs.Window.{lowered_of, roll_of, empty_outside_of, move_of}
use Rattle.state.specs.Style.{is_ready, cursor_of, with_cursor, memory_of}
use Rattle.typing.specs.Typing.{write_of, turned_of, attribute_of, mid_row_of, fon_of}
use Rattle.placing.specs.Placing.{bs_of, der_of, tabbed_of, moved_of, preamble_of}
use Rattle.styles.specs.Styles.{rcl_of, rdc_of, text_of as text_mode_of, edm_of, enm_of, eoc_of}
use Rattle.rollup.specs.Rollup.{opened_of, framed_of, ru_of, cr_of}
use Rattle.acts.specs.Act.{gated, act_of}
use Rattle.decode.specs.Pair.{cleared_of, type_of, as_text_of, rule_one_of, rule_two_of, control_of, rule_three_of, rule_four_of, pair_of}
use Rattle.decode.specs.Play.{displayed_of}
use Rattle.decode.specs.Step.{fresh_desk}
use Rattle.lines.specs.Span.{lead_more_of, end_more_of, lead_of, end_of}
use Rattle.lines.specs.Line.{header, Run, run, lines_of, digit_of as decimal_of, frame_of, row_of, head_of, codes_of, line_of as row_text_of, row_line_of, top_lines_of, refused_of}
use Rattle.lines.proofs.Laws.{top_lines_of_none}
use Rattle.runs.specs.Frames.{screens_from, frames_of}
use Rattle.runs.specs.Runs.{empty_screen, stretches_from, runs_of}
use Rattle.runs.specs.Register.{text_of, refusal_of, register_of}

-- pairs, "one a line"
abbrev pub reel : List ℕ → List ℕ
reel [] = []
reel (p ∷ ps) = line_of (p / 256) (p % 256) ++ reel ps

-- "48 49" from frame 2 on: RU2, then the pair
abbrev pub shown : List ℕ
shown = reel (0x9425 ∷ 0xc849 ∷ [])

abbrev pub space : List ℕ
space = 0x20 ∷ []

-- a frame below 10 as the register prints it
abbrev pub frame : ℕ → List ℕ
frame n = 0x30 ∷ 0x30 ∷ 0x30 ∷ 0x30 ∷ (n + 0x30) ∷ []

-- a line of row 15 for each run
abbrev pub lines : List (ℕ × ℕ × List ℕ) → List ℕ
lines [] = []
lines (l ∷ ls) = frame l.0 ++ (space ++ (frame l.1 ++ (space ++ ((0x31 ∷ 0x35 ∷ []) ++ (space ++ (l.2 ++ (0x0a ∷ lines ls)))))))

-- "refused 00003 5"
abbrev pub refused : List ℕ
refused = 0x72 ∷ 0x65 ∷ 0x66 ∷ 0x75 ∷ 0x73 ∷ 0x65 ∷ 0x64 ∷ 0x20 ∷ 0x30 ∷ 0x30 ∷ 0x30 ∷ 0x30 ∷ 0x33 ∷ 0x20 ∷ 0x35 ∷ 0x0a ∷ []

-- the codes 48 49, and 41
abbrev pub hi : List ℕ
hi = 0x34 ∷ 0x38 ∷ 0x34 ∷ 0x39 ∷ []

abbrev pub letter : List ℕ
letter = 0x34 ∷ 0x31 ∷ []

-- P2, "The reel 9420 9420 9470 9470 C849 942F 942F 8080 8080 942C 942C"
abbrev pub loaded : List ℕ
loaded = reel (0x9420 ∷ 0x9420 ∷ 0x9470 ∷ 0x9470 ∷ 0xc849 ∷ 0x942f ∷ 0x942f ∷ 0x8080 ∷ 0x8080 ∷ 0x942c ∷ 0x942c ∷ [])

-- a bad third line, in lower case, and an unfinished one
abbrev pub bad : List ℕ
bad = shown ++ (0x63 ∷ 0x38 ∷ 0x34 ∷ 0x39 ∷ 0x0a ∷ [])

abbrev pub unfinished : List ℕ
unfinished = shown ++ (0x39 ∷ 0x34 ∷ [])

-- painted white, and over it painted green
abbrev pub painted : List ℕ
painted = reel (0x9429 ∷ 0xc180 ∷ 0x9462 ∷ 0xc180 ∷ [])

-- each reel with its register
abbrev pub Registers : List (List ℕ × List ℕ) → Type 0
Registers [] = Unit
Registers (r ∷ rs) = (register_of r.0 ≡ header ++ r.1) × Registers rs

abbrev pub small : List (List ℕ × List ℕ)
small =
    -- loaded from frame 1 on, it stands from frame 6 on
    (loaded, lines ((6, 9, hi) ∷ []))
    -- "Empty input prints the header alone."
    ∷ ([], [])
    ∷ (bad, lines ((2, 2, hi) ∷ []) ++ refused)
    ∷ (unfinished, lines ((2, 2, hi) ∷ []) ++ refused)
    -- pens count, so there are two runs
    ∷ (painted, lines ((2, 3, letter) ∷ (4, 4, letter) ∷ []))
    ∷ []

-- Each is computed in parts: its frames, their runs, and the lines of these. Only the bottom row has any; that the rows above have none is cited, since
-- to compute it takes longer than all the rest.

-- a screen whose bottom row starts with these cells, and nothing else
abbrev bottom : List ℕ → List ℕ
bottom cells = over empty_screen 896 cells

bottom_lines : (cells : List ℕ) (from to : ℕ) → lines_of (run from to (bottom cells)) ≡ row_line_of (run from to (bottom cells)) 15
unfolding top_lines_of
bottom_lines cells from to =
    ap (λ (l : List ℕ). l ++ row_line_of (run from to (bottom cells)) 15)
    (top_lines_of_none (run from to (bottom cells)) 14 (λ i h. before_over empty_screen 896 cells i h ∙ get_or-replicate 960 i 0 0 (omega arith)))

abbrev hi_screen : List ℕ
hi_screen = bottom (0x48 ∷ 0 ∷ 0x49 ∷ 0 ∷ [])

-- "A" with a pen
abbrev letter_screen : ℕ → List ℕ
letter_screen pen = bottom (0x41 ∷ pen ∷ [])

hi_row : (from to : ℕ) → row_line_of (run from to hi_screen) 15 ≡ head_of from to 15 ++ (hi ++ (0x0a ∷ []))
unfolding lead_more_of end_more_of lead_of end_of hex_of codes_of row_text_of row_line_of
hi_row from to = refl

letter_row : (pen from to : ℕ) → row_line_of (run from to (letter_screen pen)) 15 ≡ head_of from to 15 ++ (letter ++ (0x0a ∷ []))
unfolding lead_more_of end_more_of lead_of end_of hex_of codes_of row_text_of row_line_of
letter_row pen from to = refl

hi_lines : (from to : ℕ) → lines_of (run from to hi_screen) ≡ head_of from to 15 ++ (hi ++ (0x0a ∷ []))
hi_lines from to = bottom_lines (0x48 ∷ 0 ∷ 0x49 ∷ 0 ∷ []) from to ∙ hi_row from to

letter_lines : (pen from to : ℕ) → lines_of (run from to (letter_screen pen)) ≡ head_of from to 15 ++ (letter ++ (0x0a ∷ []))
letter_lines pen from to = bottom_lines (0x41 ∷ pen ∷ []) from to ∙ letter_row pen from to

-- each reel with its screens
abbrev Films : List (List ℕ × List (List ℕ)) → Type 0
Films [] = Unit
Films (r ∷ rs) = (frames_of r.0 ≡ r.1) × Films rs

abbrev screens : List (List ℕ × List (List ℕ))
screens =
    (loaded, empty_screen ∷ empty_screen ∷ empty_screen ∷ empty_screen ∷ empty_screen ∷ hi_screen ∷ hi_screen ∷ hi_screen ∷ hi_screen ∷ empty_screen ∷ empty_screen ∷ [])
    ∷ ([], [])
    ∷ (bad, empty_screen ∷ hi_screen ∷ [])
    ∷ (unfinished, empty_screen ∷ hi_screen ∷ [])
    ∷ (painted, empty_screen ∷ letter_screen 0 ∷ letter_screen 0 ∷ letter_screen 1 ∷ [])
    ∷ []

films : Films screens
unfolding is_good low_seven digit_of hex_of judge_of line_at line_of pack_of unpack_of after_mid_row of_preamble flashing after_write_of back_of tab_of preamble_column_of preamble_row_of channel_of without_channel_of mid_row_or_special_of tab_offset_of preamble_code_of channel_one_code_of code_of write_cell_of empty_cell_of empty_from_of empty_rows_of empty_all_of exchanged_of lowered_of roll_of empty_outside_of move_of is_ready cursor_of with_cursor memory_of write_of turned_of attribute_of mid_row_of fon_of bs_of der_of tabbed_of moved_of preamble_of rcl_of rdc_of text_mode_of edm_of enm_of eoc_of opened_of framed_of ru_of cr_of gated act_of cleared_of type_of as_text_of rule_one_of rule_two_of control_of rule_three_of rule_four_of pair_of fresh_desk displayed_of screens_from frames_of
films = (refl, (refl, (refl, (refl, (refl, tt)))))

register_by : (r : List ℕ) {fs : List (List ℕ)} {rs : List Run} {text : List ℕ} → frames_of r ≡ fs → runs_of fs ≡ rs → text_of rs ≡ text
    → register_of r ≡ header ++ (text ++ refusal_of (length r) (length fs))
unfolding register_of
register_by r {fs} film runs printed =
    ap (λ (x : List (List ℕ)). header ++ (text_of (runs_of x) ++ refusal_of (length r) (length x))) film
    ∙ ap (λ (x : List ℕ). header ++ (x ++ refusal_of (length r) (length fs))) (ap text_of runs ∙ printed)

pub registers : Registers small
unfolding line_of decimal_of frame_of row_of head_of refused_of stretches_from runs_of text_of refusal_of
registers =
    let first = register_by loaded {rs = run 6 9 hi_screen ∷ []} films.0 refl (λ i. hi_lines 6 9 i ++ []) in
    let second = register_by [] films.1.0 refl refl in
    let third = register_by bad {rs = run 2 2 hi_screen ∷ []} films.1.1.0 refl (λ i. hi_lines 2 2 i ++ []) in
    let fourth = register_by unfinished {rs = run 2 2 hi_screen ∷ []} films.1.1.1.0 refl (λ i. hi_lines 2 2 i ++ []) in
    let fifth = register_by painted {rs = run 2 3 (letter_screen 0) ∷ run 4 4 (letter_screen 1) ∷ []} films.1.1.1.1.0 refl (λ i. letter_lines 0 2 3 i ++ (letter_lines 1 4 4 i ++ [])) in
    (first, (second, (third, (fourth, (fifth, tt)))))
