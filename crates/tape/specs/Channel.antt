-- The channels that a tape may be for, by their numbers.
-- Paper 01, "Numbers given back": "channel not 1–2"; Paper 02, request 1: "Given one memory of 960 bytes and a channel".
-- Assumes nothing.
use Rattle.std.specs.Prelude.{◌≡◌, ◌≤◌, ℕ, Result, MatchResult}
use Rattle.tape.specs.declared.Channel.{Channel}
use Rattle.tape.specs.declared.Channel.TheVariants.{One, Two}
use Rattle.tape.specs.declared.NoChannel.{NoChannel}

abbrev pub number_of_channel : Channel → ℕ
number_of_channel One = 1
number_of_channel Two = 2

-- the channel of a number, or that the number is no channel's
abbrev pub Names : ℕ → Result Channel NoChannel → Type 0
Names number given = MatchResult given (λ channel. number_of_channel channel ≡ number) (λ _. (1 ≤ number) × (number ≤ 2) → ⊥)
