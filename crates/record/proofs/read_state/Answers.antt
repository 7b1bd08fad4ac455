-- `read_state` meets its contract. Assumes nothing.
use lib.ListN.{get_or}
use Rattle.state.specs.State.{mode, state}
use Rattle.record.specs.Layout.{state_of}
use Rattle.record.proofs.read_state.Goals as goal

pub returns : goal.returns
unfolding state_of
returns c =
    let bs = c.args.bytes.now in
    λ i. state (c.low_first.ensures i) (get_or bs 2 0) (get_or bs 3 0) (get_or bs 17 0) (get_or bs 18 0)
    (mode (get_or bs 4 0) (get_or bs 5 0) (get_or bs 6 0) (get_or bs 7 0) (c.read_cursor.ensures i) (c.read_cursor-2.ensures i) (c.read_cursor-3.ensures i))
