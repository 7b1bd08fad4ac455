-- The two acts of a desk, each counted: a pair, and the selection of a channel.
-- Paper 01, "What the codes do" (selecting; "by one as for a pair"); house H4.
-- Assumes nothing.
use Rattle.std.specs.Prelude.{ℕ, ◌+◌, replicate}
use Rattle.state.specs.State.{Desk, desk, state, fresh_of, selected_of}
use Rattle.decode.specs.Pair.{pair_of}

abbrev pub counted : Desk → Desk
counted d = desk (state (d.state.acts + 1) d.state.selected d.state.stream d.state.first d.state.second d.state.mode) d.cells

unfoldable pub taken_of : Desk → ℕ → ℕ → Desk
taken_of d x y = counted (pair_of d x y)

-- "gives the fresh state with that channel; only the act count goes on, by one as for a pair"
unfoldable pub select_of : Desk → ℕ → Desk
select_of d channel = desk (selected_of d.state channel) (replicate 1920 0)

-- "A fresh desk has channel 1 selected."
unfoldable pub fresh_desk : Desk
fresh_desk = desk (fresh_of 1) (replicate 1920 0)
