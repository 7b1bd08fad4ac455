-- `play` ends: each turn passes over a reel at least. Assumes nothing.
use lib.ListN.{length}
use Rattle.reels_main.proofs.play.Given as goal

abbrev pub decreases-loop-copied : goal.decreases-loop-copied
decreases-loop-copied g l = length l.rest
