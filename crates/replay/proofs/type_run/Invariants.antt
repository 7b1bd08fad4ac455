-- `type_run` meets its contract. Assumes nothing.
use mathlib.Core.Path.{◌≡◌}
use lib.ListN.{length}
use Rattle.cell.specs.Cursor.{Placed}
use Rattle.state.specs.State.{desk}
use Rattle.text.specs.Typed.{typed_of}
use Rattle.standing.specs.Calls.{replay_of}
use Rattle.replay.specs.Captions.{caption_decoder}
use Rattle.replay.proofs.type_run.Given as goal

abbrev pub invariant-loop-n : goal.invariant-loop-n
invariant-loop-n l = record {
  size : length l.cells ≡ length l.initial.cells;
  placed : Placed l.cursor;
  typed : desk (typed_of l.start l.cursor l.n) l.cells ≡ replay_of caption_decoder (desk l.start l.initial.cells) l.log l.from l.n;
}
