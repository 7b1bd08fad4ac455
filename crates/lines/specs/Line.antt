-- The bytes of the register's lines: the header, a line for each row of a run, and a refusal.
-- Paper 01, "Reel and register"; docs/DECISIONS.md, "Register".
-- Assumes nothing.
use Rattle.std.specs.Prelude.{◌≡◌, List, [], ◌∷◌, ◌++◌, ℕ, zero, suc, ◌+◌, ◌-◌, ◌/◌, ◌%◌, ◌≤◌, eqb, length}
use Rattle.facts.specs.Choice.{pick}
use Rattle.facts.specs.Over.{over}
use Rattle.wire.specs.Line.{hex_of}
use Rattle.cell.specs.Place.{row_number, row_at}
use Rattle.page.specs.Page.{displayed}
use Rattle.lines.specs.Span.{code_at, lead_of, end_of}

-- "from to row codes"
abbrev pub header : List ℕ
header = 0x66 ∷ 0x72 ∷ 0x6f ∷ 0x6d ∷ 0x20 ∷ 0x74 ∷ 0x6f ∷ 0x20 ∷ 0x72 ∷ 0x6f ∷ 0x77 ∷ 0x20 ∷ 0x63 ∷ 0x6f ∷ 0x64 ∷ 0x65 ∷ 0x73 ∷ 0x0a ∷ []

-- the last decimal digit of a number
unfoldable pub digit_of : ℕ → ℕ
digit_of n = n % 10 + 0x30

-- a frame in "five digits", and a space
unfoldable pub frame_of : ℕ → List ℕ
frame_of n = digit_of (n / 10000) ∷ digit_of (n / 1000) ∷ digit_of (n / 100) ∷ digit_of (n / 10) ∷ digit_of n ∷ 0x20 ∷ []

-- "row (two)", and a space
unfoldable pub row_of : ℕ → List ℕ
row_of n = digit_of (n / 10) ∷ digit_of n ∷ 0x20 ∷ []

-- "first frame and last frame (five digits), row (two)", a space behind each
unfoldable pub head_of : ℕ → ℕ → ℕ → List ℕ
head_of from to row = frame_of from ++ (frame_of to ++ row_of row)

-- "cell codes in capital hexadecimal .., empty as 00": n cells from cell `from` on
unfoldable pub codes_of : List ℕ → ℕ → ℕ → ℕ → List ℕ
codes_of s at from zero = []
codes_of s at from (suc n) = codes_of s at from n ++ (hex_of (code_at s at (from + n) / 16) ∷ hex_of (code_at s at (from + n) % 16) ∷ [])

-- "A run is a longest stretch of frames": its first frame and its last, and the screen that stood
pub record Run : Type 0 where
  pub from : ℕ
  pub to : ℕ
  pub screen : List ℕ

abbrev pub run : ℕ → ℕ → List ℕ → Run
run from to screen = record { from = from; to = to; screen = screen }

-- "a line: first frame and last frame (five digits), row (two), cell codes"
unfoldable pub line_of : Run → ℕ → List ℕ
line_of r row =
    let at = row_at displayed (row_number row) in
    let lead = lead_of r.screen at 32 in
    head_of r.from r.to row ++ (codes_of r.screen at lead (end_of r.screen at 32 - lead) ++ (0x0a ∷ []))

-- "for each row with a non-empty cell"
unfoldable pub row_line_of : Run → ℕ → List ℕ
row_line_of r row = pick (eqb (end_of r.screen (row_at displayed (row_number row)) 32) 0) [] (line_of r row)

-- the first n rows, "from the top"
unfoldable pub top_lines_of : Run → ℕ → List ℕ
top_lines_of r zero = []
top_lines_of r (suc n) = top_lines_of r n ++ row_line_of r (n + 1)

-- "For each run .. and for each row"
abbrev pub lines_of : Run → List ℕ
lines_of r = top_lines_of r 15

-- "`refused`, its frame, the number, as `refused 00003 5`"
unfoldable pub refused_of : ℕ → ℕ → List ℕ
refused_of frame number =
    (0x72 ∷ 0x65 ∷ 0x66 ∷ 0x75 ∷ 0x73 ∷ 0x65 ∷ 0x64 ∷ 0x20 ∷ []) ++ (frame_of frame ++ (digit_of number ∷ 0x0a ∷ []))

-- what a call that prints at the front of a buffer promises: the text stands there, and r is its length, `most` at most
pub record Put (out text : List ℕ) (most : ℕ) (left : List ℕ) (r : ℕ) : Type 0 where
  pub bytes : left ≡ over out 0 text
  pub next : r ≡ length text
  pub room : r ≤ most
