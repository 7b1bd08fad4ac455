-- The three lengths and the fresh record, as the code makes them. Assumes nothing.
use mathlib.Core.Path.{◌≡◌, refl}
use mathlib.Core.Bool.{◌&&◌}
use Prim.Native.Nat.{ℕ}
use lib.Dec.{eqb}
use lib.ListN.{drop, replicate}
use Rattle.state.specs.State.{desk, fresh_of}
use Rattle.decode.specs.Step.{fresh_desk}
use Rattle.record.specs.Layout.{record_of}
use Rattle.standing.specs.Calls.{is_sized}
use Rattle.replay.specs.Captions.{caption_decoder}

-- the three lengths are those that the theory asks
pub is_sized_is : (d l t : ℕ) → (eqb d 1984 && (eqb l 48000 && eqb t 31744)) ≡ is_sized caption_decoder d l t
unfolding is_sized
is_sized_is d l t = refl

-- the fresh record: the fresh state's head before zeros
pub fresh_before_zeros : record_of (desk (fresh_of 1) (drop 64 (replicate 1984 0))) ≡ record_of fresh_desk
unfolding fresh_desk
fresh_before_zeros = refl
