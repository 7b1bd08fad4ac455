-- Roll-up captions: how they start, and how the window rolls.
-- Paper 01, "What the codes do": RU and CR; paper 02, request 4; 47 CFR 15.119 (f)(1).
-- Assumes nothing.
use Rattle.std.specs.Prelude.{ℕ, eqb}
use Rattle.facts.specs.Choice.{pick}
use Rattle.cell.specs.declared.Row.{Row}
use Rattle.cell.specs.declared.Cursor.{Cursor}
use Rattle.cell.specs.Place.{row_number, column_number}
use Rattle.cell.specs.Cursor.{cursor}
use Rattle.page.specs.Page.{displayed, non_displayed, empty_all_of}
use Rattle.window.specs.Window.{lowered_of, roll_of, empty_outside_of}
use Rattle.state.specs.State.{Captions, captions}
use Rattle.state.specs.Style.{roll_up, cursors, styled}
use Rattle.placing.specs.Placing.{moved_of}

-- "column 1, plain pen"
abbrev pub plain_in : Row → Cursor
plain_in row = cursor row (column_number 1) 0

-- "Mark clear: empties the displayed memory too, base row 15, column 1, plain pen"; "Mark set: base row, cursor and pen stay": (f)(1)(ix), not (ii);
-- request 4: "a base row above the depth's fit is lowered .. when RU makes the window deeper, and the whole window moves with it"
unfoldable pub opened_of : Captions → ℕ → Captions
opened_of d n =
    let m = d.mode in
    pick (eqb m.mark 0) (captions (cursors m (plain_in (row_number 15)) m.pop m.paint) (empty_all_of d.cells displayed))
    (moved_of d (lowered_of m.roll n))

-- "empties the non-displayed memory"; "mark set .. Then depth n, style roll-up, displayed rows outside the window emptied." It ends Text.
unfoldable pub framed_of : Captions → ℕ → Captions
framed_of d n =
    captions (styled d.mode roll_up 0 1 n) (empty_outside_of (empty_all_of d.cells non_displayed) displayed d.mode.roll.row n)

-- "RU n"
unfoldable pub ru_of : Captions → ℕ → Captions
ru_of d n = framed_of (opened_of d n) n

-- "CR, roll-up only: each window row takes the row below, the base row is emptied, column 1, plain pen."
unfoldable pub cr_of : Captions → Captions
cr_of d =
    let m = d.mode in
    pick (eqb m.style roll_up)
    (captions (cursors m (plain_in m.roll.row) m.pop m.paint) (roll_of d.cells displayed m.roll.row m.depth))
    d
