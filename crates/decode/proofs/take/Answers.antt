-- `take` meets its contract. Assumes nothing.
use mathlib.Core.Path.{sym}
use Prim.Native.Nat.{◌+◌}
use Rattle.state.specs.State.{desk, state}
use Rattle.decode.specs.Step.{taken_of}
use Rattle.decode.proofs.Laws.{pair_of_acts}
use Rattle.decode.proofs.take.Goals as goal

pub returns : goal.returns
unfolding taken_of
returns c =
    let a = c.args in
    let e = c.pair.ensures in
    let n = sym (pair_of_acts (desk a.state a.cells.now) a.x a.y) in
    λ i. desk (state (n i + 1) (e i).state.selected (e i).state.stream (e i).state.first (e i).state.second (e i).state.mode) (e i).cells
