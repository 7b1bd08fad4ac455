-- Pairs of text one after the other, with the style's cursor in hand: which pairs these are, and the state that they leave.
-- Paper 01, "Pair rules, in this order": rules 1, 2 and 4, by which both bytes are text while no pair is expected.
-- Assumes nothing.
use Rattle.std.specs.Prelude.{ℕ, ◌+◌, Bool, ◌&&◌, ◌||◌, eqb, leb, ltb}
use Rattle.wire.specs.Byte.{low_seven}
use Rattle.cell.specs.declared.Cursor.{Cursor}
use Rattle.state.specs.declared.State.{State}
use Rattle.state.specs.State.{state}
use Rattle.state.specs.Style.{with_cursor}

-- "expected a, b .. (0, 0 none)"
abbrev pub is_none_expected : State → Bool
is_none_expected s = eqb s.first 0 && eqb s.second 0

-- a first byte with a not "from 10h to 1Fh", good or bad: its pair is text
unfoldable pub is_text : ℕ → Bool
is_text x = ltb (low_seven x) 0x10 || leb 0x20 (low_seven x)

-- the state behind n pairs of text, which have left the style's cursor at c
abbrev pub typed_of : State → Cursor → ℕ → State
typed_of s c n = state (s.acts + n) s.selected s.stream 0 0 (with_cursor s.mode c)
