-- A channel's number is 1 or 2. Assumes nothing.
use Prim.Native.Nat.{◌≤◌}
use native.Mathlib.Omega.{arith}
use Rattle.tape.specs.declared.Channel.{Channel}
use Rattle.tape.specs.declared.Channel.TheVariants.{One, Two}
use Rattle.tape.specs.Channel.{number_of_channel}

pub channel_own : (channel : Channel) → (1 ≤ number_of_channel channel) × (number_of_channel channel ≤ 2)
channel_own One = (omega arith, omega arith)
channel_own Two = (omega arith, omega arith)
