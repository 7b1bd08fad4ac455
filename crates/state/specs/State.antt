-- The desk in the definitions: the state and the cells; the fresh state; a window that fits.
-- Paper 01, "What the codes do" (fresh, selecting) and "Record, log, tray" (the fresh record); paper 02, request 4; house H1 and H4.
-- Assumes nothing.
use Rattle.std.specs.Prelude.{ℕ, ◌+◌, ◌≤◌, ◌≡◌, List}
use Rattle.cell.specs.declared.Cursor.{Cursor}
use Rattle.cell.specs.Place.{row_number, column_number}
use Rattle.cell.specs.Cursor.{cursor}
use Rattle.state.specs.declared.Mode.{Mode}
use Rattle.state.specs.declared.State.{State}

-- what the codes act on: "both caption memories, the cursors, the pens and the style"
pub record Captions : Type 0 where
  pub mode : Mode
  pub cells : List ℕ

abbrev pub captions : Mode → List ℕ → Captions
captions m cells = record { mode = m; cells = cells }

-- the whole desk
pub record Desk : Type 0 where
  pub state : State
  pub cells : List ℕ

abbrev pub desk : State → List ℕ → Desk
desk s cells = record { state = s; cells = cells }

-- "Fresh: rows 15, columns 1, white plain pens (house)." (H1)
abbrev pub fresh_cursor : Cursor
fresh_cursor = cursor (row_number 15) (column_number 1) 0

abbrev pub mode : ℕ → ℕ → ℕ → ℕ → Cursor → Cursor → Cursor → Mode
mode style text mark depth roll pop paint = record { style = style; text = text; mark = mark; depth = depth; roll = roll; pop = pop; paint = paint }

abbrev pub fresh_mode : Mode
fresh_mode = mode 0 0 0 0 fresh_cursor fresh_cursor fresh_cursor

-- request 4: "A valid record with the mark set has its base row no smaller than its depth."
abbrev pub Fits : Mode → Type 0
Fits m = m.mark ≡ 1 → m.depth ≤ m.roll.row.0

abbrev pub state : ℕ → ℕ → ℕ → ℕ → ℕ → Mode → State
state acts selected stream first second m = record { acts = acts; selected = selected; stream = stream; first = first; second = second; mode = m }

-- "zeros but for channel 1, rows 15, columns 1"; the channel is left open for selecting
abbrev pub fresh_of : ℕ → State
fresh_of channel = state 0 channel 0 0 0 fresh_mode

-- "Selecting channel 1 or 2, the present one too (house), gives the fresh state with that channel; only the act count goes on, by one as for a pair." (H4)
abbrev pub selected_of : State → ℕ → State
selected_of s channel = state (s.acts + 1) channel 0 0 0 fresh_mode
