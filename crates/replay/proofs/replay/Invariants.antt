-- `replay` meets its contract. Assumes nothing.
use mathlib.Core.Path.{◌≡◌}
use Prim.Native.Nat.{◌-◌, ◌≤◌}
use lib.ListN.{length}
use Rattle.standing.specs.Calls.{replay_of}
use Rattle.state.specs.State.{desk}
use Rattle.replay.specs.Captions.{caption_decoder}
use Rattle.replay.proofs.replay.Given as goal

abbrev pub invariant-loop-n : goal.invariant-loop-n
invariant-loop-n l =
    (l.n ≤ l.count) × (length l.cells ≡ length l.initial.cells) × (desk l.state l.cells ≡ replay_of caption_decoder (desk l.initial.state l.initial.cells) l.log l.from l.n)

abbrev pub decreases-loop-n : goal.decreases-loop-n
decreases-loop-n l = l.count - l.n
