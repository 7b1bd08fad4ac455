-- `put_note` takes room and makes none. Assumes nothing.
use Rattle.std.proofs.Common.{◌≤◌, length}
use Rattle.reels_main.proofs.note.put_note.Given as goal

abbrev pub invariant-loop : goal.invariant-loop
invariant-loop l = length l.room.now ≤ length l.initial.room.now
