-- The pair rules, in the paper's order: what two raw bytes do to a desk.
-- Paper 01, "Pair rules, in this order"; 47 CFR 15.119 (i)(1) to (4) and (j).
-- Assumes nothing.
use Rattle.std.specs.Prelude.{ℕ, Bool, not, ◌&&◌, ◌||◌, eqb, leb, ltb, Option, Some, None}
use Rattle.facts.specs.Choice.{pick}
use Rattle.wire.specs.Byte.{is_good, low_seven}
use Rattle.codes.specs.Codes.{code_of, channel_of}
use Rattle.codes.specs.Assigned.{is_unassigned}
use Rattle.state.specs.declared.Mode.{Mode}
use Rattle.state.specs.declared.State.{State}
use Rattle.state.specs.State.{Captions, captions, Desk, desk, state}
use Rattle.state.specs.Style.{is_ready}
use Rattle.typing.specs.Typing.{write_of}
use Rattle.acts.specs.Act.{act_of}

-- what the codes act on, and the desk with other captions
abbrev pub captions_of : Desk → Captions
captions_of d = captions d.state.mode d.cells

abbrev pub with_mode : State → Mode → State
with_mode s m = state s.acts s.selected s.stream s.first s.second m

abbrev pub with_captions : Desk → Captions → Desk
with_captions d c = desk (with_mode d.state c.mode) c.cells

-- the state with another stream's channel and another expected pair
abbrev pub told : State → ℕ → ℕ → ℕ → State
told s stream first second = state s.acts s.selected stream first second s.mode

-- "Each pair clears it, unless stated."
unfoldable pub cleared_of : Desk → Desk
cleared_of d = desk (told d.state d.state.stream 0 0) d.cells

-- "the stream's channel is the selected one, a style is set, and Text is off"
abbrev pub is_open : State → Bool
is_open s = eqb s.stream s.selected && is_ready s.mode

-- "Writing happens only while" that is so
unfoldable pub type_of : Desk → ℕ → Desk
type_of d code = pick (is_open d.state) (with_captions d (write_of (captions_of d) code)) d

-- "Text: a bad byte writes 7Fh, a good one from 20h writes itself, a good one below 20h does nothing."
unfoldable pub as_text_of : Desk → ℕ → Desk
as_text_of d y = pick (is_good y) (pick (ltb (low_seven y) 0x20) d (type_of d (low_seven y))) (type_of d 0x7f)

-- the code that a byte writes as text, none where it does nothing
unfoldable pub text_code_of : ℕ → Option ℕ
text_code_of y = pick (is_good y) (pick (ltb (low_seven y) 0x20) None (Some (low_seven y))) (Some 0x7f)

-- a code typed if there is any
abbrev pub type_any_of : Desk → Option ℕ → Desk
type_any_of d None = d
type_any_of d (Some code) = type_of d code

-- "if a pair is expected and the second byte is good with b equal to its second value"
abbrev pub is_damaged_repeat : State → ℕ → Bool
is_damaged_repeat s y = leb 1 s.first && is_good y && eqb (low_seven y) s.second

-- 1. "First byte bad: .. nothing else happens. Otherwise 7Fh is written, then the second byte is treated as text."
unfoldable pub rule_one_of : Desk → ℕ → Desk
rule_one_of d y = pick (is_damaged_repeat d.state y) (cleared_of d) (as_text_of (type_of (cleared_of d) 0x7f) y)

-- 2. "a from 00h to 0Fh: a is ignored, the second byte is text."
unfoldable pub rule_two_of : Desk → ℕ → Desk
rule_two_of d y = as_text_of (cleared_of d) y

-- "if the second byte is bad or b is below 20h .. If the pair is expected"
abbrev pub is_passed_over : State → ℕ → ℕ → Bool
is_passed_over s a y = (not (is_good y) || ltb (low_seven y) 0x20) || (eqb a s.first && eqb (low_seven y) s.second)

-- "the stream's channel becomes 1 .. or 2 .., the pair becomes expected, and it acts if that channel is the selected one"
unfoldable pub control_of : Desk → ℕ → ℕ → Desk
control_of d a b =
    let e = desk (told d.state (channel_of a) a b) d.cells in
    pick (eqb (channel_of a) d.state.selected) (with_captions e (act_of (captions_of e) (code_of a b))) e

-- 3. "a from 10h to 1Fh: .. nothing else. .. If it is unassigned, nothing else. Otherwise .."
unfoldable pub rule_three_of : Desk → ℕ → ℕ → Desk
rule_three_of d a y =
    pick (is_passed_over d.state a y) (cleared_of d)
    (pick (is_unassigned (code_of a (low_seven y))) (cleared_of d) (control_of (cleared_of d) a (low_seven y)))

-- 4. "Otherwise a is written, then the second byte is text."
unfoldable pub rule_four_of : Desk → ℕ → ℕ → Desk
rule_four_of d a y = as_text_of (type_of (cleared_of d) a) y

-- "in this order"
unfoldable pub pair_of : Desk → ℕ → ℕ → Desk
pair_of d x y =
    let a = low_seven x in
    pick (is_good x) (pick (ltb a 0x10) (rule_two_of d y) (pick (ltb a 0x20) (rule_three_of d a y) (rule_four_of d a y))) (rule_one_of d y)
