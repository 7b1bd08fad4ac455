-- `put_pairs` meets its contract. Assumes nothing.
use mathlib.Core.Path.{◌≡◌}
use Rattle.std.specs.Slice.Iter.{chunks_exact_rest, chunks_exact_size}
use Rattle.wire.specs.Reel.{reel_of_raw}
use Rattle.items.proofs.LawsOfLaid.{Rest}
use Rattle.frames.proofs.put_pairs.Given as goal

abbrev pub invariant-loop-pair : goal.invariant-loop-pair
invariant-loop-pair l =
    (chunks_exact_size l.pair-iterator ≡ 2) × Rest l.initial.out 0 (reel_of_raw l.raw) l.out l.n (reel_of_raw (chunks_exact_rest l.pair-iterator))
