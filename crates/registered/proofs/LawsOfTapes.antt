-- The programmes of one caption: a tape, frames that say nothing, and EDM twice or the end; how many pairs they are, and how early a caption can stand. Assumes nothing.
use mathlib.Core.Path.{◌≡◌, ap}
use mathlib.Core.List.{List, [], ◌∷◌, ◌++◌, append-nil}
use Prim.Native.Nat.{ℕ, ◌+◌, ◌-◌, ◌≤◌}
use native.Mathlib.Omega.{arith}
use lib.ListN.{length-append}
use Rattle.wire.specs.Reel.{pairs_of}
use Rattle.wire.proofs.LawsOfReel.{pairs_of_half, pairs_of_then}
use Rattle.tape.specs.Item.{rcl_item, edm_item, enm_item, eoc_item, bytes_of}
use Rattle.tape.specs.Tape.{rows_tape_of, loading_of, tape_of}
use Rattle.tape.specs.Programme.{nulls_of, show, wait, programme_of}
use Rattle.tape.proofs.LawsOfSizes.{nulls_of_pairs, pairs_of-nulls_of, tape_of_pairs}
use Rattle.registered.specs.Turns.{caption, cues_of}

module _ (memory : List ℕ) (w : ℕ) where
  -- cleared
  pub cleared_is : programme_of (cues_of (caption memory w 0 ∷ [])) ≡ tape_of memory 1 ++ (nulls_of w ++ bytes_of 1 edm_item)
  unfolding tape_of
  cleared_is = ap (λ (l : List ℕ). tape_of memory 1 ++ (nulls_of w ++ l)) (append-nil (bytes_of 1 edm_item))

  pub cleared_pairs : pairs_of (programme_of (cues_of (caption memory w 0 ∷ []))) ≡ pairs_of (tape_of memory 1) + w + 2
  unfolding bytes_of
  cleared_pairs =
      let rest = nulls_of w ++ bytes_of 1 edm_item in
      rw cleared_is (omega (arith, pairs_of_then (tape_of memory 1) rest (tape_of_pairs 1 memory), pairs_of_then (nulls_of w) (bytes_of 1 edm_item) (nulls_of_pairs w), pairs_of-nulls_of w))

  -- left to the end of the input
  pub open_is : programme_of (show memory 1 0 ∷ wait w ∷ []) ≡ tape_of memory 1 ++ nulls_of w
  unfolding tape_of
  open_is = ap (λ (l : List ℕ). tape_of memory 1 ++ l) (append-nil (nulls_of w))

  pub open_pairs : pairs_of (programme_of (show memory 1 0 ∷ wait w ∷ [])) ≡ pairs_of (tape_of memory 1) + w
  open_pairs = rw open_is (omega (arith, pairs_of_then (tape_of memory 1) (nulls_of w) (tape_of_pairs 1 memory), pairs_of-nulls_of w))

-- RCL twice and ENM twice at least stand before EOC
pub tape_of_late : (memory : List ℕ) (channel : ℕ) → 5 ≤ pairs_of (tape_of memory channel) - 1
unfolding tape_of loading_of bytes_of
tape_of_late memory channel =
    let rows = rows_tape_of channel memory 15 in
    let front = bytes_of channel rcl_item ++ bytes_of channel enm_item in
    omega (arith, pairs_of_half (tape_of memory channel), length-append (front ++ rows) (bytes_of channel eoc_item), length-append front rows)
