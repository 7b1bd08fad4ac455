-- What may be wrong with a step, by its number, and with the earliest frame that could be kept.
-- Paper 02, request 1: "Refusals: 7 for a screen not writable, after 1, 6 and 2; invalid cells give 6."; Paper 01, "Numbers given back"; docs/TAPES.md.
-- Assumes nothing.
use Rattle.std.specs.Prelude.{ℕ, Option, Some, None, Result, Ok, Err}
use Rattle.steps.specs.declared.Wrong.{Wrong}
use Rattle.steps.specs.declared.Wrong.TheVariants.{WrongLength, NoSuch, TooManyFrames, Invalid, NotWritable, TooEarly, Unshown}

-- 1 to 7 are the paper's; 8 for a frame that is too early, 9 while a screen is still to be shown
abbrev pub wrong_number_of : Wrong → ℕ
wrong_number_of WrongLength = 1
wrong_number_of NoSuch = 2
wrong_number_of TooManyFrames = 3
wrong_number_of Invalid = 6
wrong_number_of NotWritable = 7
wrong_number_of (TooEarly earliest) = 8
wrong_number_of Unshown = 9

-- 0 where nothing is wrong
abbrev pub number_of_wrong : Option Wrong → ℕ
number_of_wrong None = 0
number_of_wrong (Some wrong) = wrong_number_of wrong

abbrev pub wrong_frame_of : Wrong → ℕ
wrong_frame_of WrongLength = 0
wrong_frame_of NoSuch = 0
wrong_frame_of TooManyFrames = 0
wrong_frame_of Invalid = 0
wrong_frame_of NotWritable = 0
wrong_frame_of (TooEarly earliest) = earliest
wrong_frame_of Unshown = 0

-- the earliest frame that could be kept, 0 where none was too early
abbrev pub earliest_of : Option Wrong → ℕ
earliest_of None = 0
earliest_of (Some wrong) = wrong_frame_of wrong

-- what is wrong, if anything, by what is given back
abbrev pub wrong_of : {T : Type 0} → Result T Wrong → Option Wrong
wrong_of (Ok value) = None
wrong_of (Err wrong) = Some wrong
