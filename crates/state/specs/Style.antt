-- Which cursor and which memory a style works on: decided here and nowhere else.
-- Paper 01, "What the codes do": "Each style has its own cursor and pen", "Pop-on works on the non-displayed memory, the others on the displayed one".
-- Assumes nothing.
use Rattle.std.specs.Prelude.{ℕ, Bool, ◌&&◌, eqb, leb}
use Rattle.facts.specs.Choice.{pick}
use Rattle.cell.specs.declared.Cursor.{Cursor}
use Rattle.page.specs.Page.{displayed, non_displayed}
use Rattle.state.specs.declared.Mode.{Mode}
use Rattle.state.specs.State.{mode}

-- "4 style (0 none, 1 roll-up, 2 pop-on, 3 paint-on)"
abbrev pub roll_up : ℕ
roll_up = 1

abbrev pub pop_on : ℕ
pop_on = 2

abbrev pub paint_on : ℕ
paint_on = 3

-- "with a style set and Text off"
unfoldable pub is_ready : Mode → Bool
is_ready m = leb 1 m.style && eqb m.text 0

-- "Each style has its own cursor and pen"
unfoldable pub cursor_of : Mode → Cursor
cursor_of m = pick (eqb m.style roll_up) m.roll (pick (eqb m.style pop_on) m.pop m.paint)

-- the mode with other cursors, and with another style, Text, mark and depth
abbrev pub cursors : Mode → Cursor → Cursor → Cursor → Mode
cursors m roll pop paint = mode m.style m.text m.mark m.depth roll pop paint

abbrev pub styled : Mode → ℕ → ℕ → ℕ → ℕ → Mode
styled m style text mark depth = mode style text mark depth m.roll m.pop m.paint

-- the mode with c for its style's cursor
unfoldable pub with_cursor : Mode → Cursor → Mode
with_cursor m c =
    cursors m (pick (eqb m.style roll_up) c m.roll) (pick (eqb m.style pop_on) c m.pop) (pick (eqb m.style paint_on) c m.paint)

-- "Pop-on works on the non-displayed memory, the others on the displayed one."
unfoldable pub memory_of : Mode → ℕ
memory_of m = pick (eqb m.style pop_on) non_displayed displayed
