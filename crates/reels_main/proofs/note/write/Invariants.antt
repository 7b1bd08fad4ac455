-- `write` is safe: what is put takes room and makes none. Assumes nothing.
use Rattle.std.proofs.Common.{◌≤◌, length}
use Rattle.reels_main.proofs.note.write.Given as goal

abbrev pub invariant-loop-piece : goal.invariant-loop-piece
invariant-loop-piece l = length l.room ≤ l.size
