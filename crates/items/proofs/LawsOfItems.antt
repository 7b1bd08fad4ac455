-- How many bytes a control pair has, which goes out twice. Assumes nothing.
use mathlib.Core.Path.{◌≡◌}
use Prim.Native.Nat.{ℕ, ◌<◌}
use borrow.Author.Tests.{lt-ltb}
use lib.ListN.{length}
use Rattle.tape.specs.declared.Item.{Item}
use Rattle.tape.specs.Item.{bytes_of}

pub length_twice : (channel : ℕ) (i : Item) → i.first < 0x20 → length (bytes_of channel i) ≡ 4
unfolding bytes_of
length_twice channel i h = rw (lt-ltb i.first 0x20 h)
