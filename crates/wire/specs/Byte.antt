-- A byte is good or bad by the number of its one bits, what it says is its low seven bits, and what is sent is good.
-- Paper 01, "Pair rules, in this order"; Paper 02, request 1; 47 CFR 15.119 (j), odd parity.
-- Assumes nothing.
use Rattle.std.specs.Prelude.{ℕ, zero, suc, ◌+◌, ◌/◌, ◌%◌, Bool, eqb}
use Rattle.facts.specs.Choice.{pick}

-- the one bits among the low n
abbrev pub ones_among : ℕ → ℕ → ℕ
ones_among zero byte = 0
ones_among (suc n) byte = byte % 2 + ones_among n (byte / 2)

-- "one bits among its eight"
abbrev pub ones_of : ℕ → ℕ
ones_of byte = ones_among 8 byte

-- "A byte is good if it has an odd number of one bits among its eight."
unfoldable pub is_good : ℕ → Bool
is_good byte = eqb (ones_of byte % 2) 1

-- "the low seven bits"
unfoldable pub low_seven : ℕ → ℕ
low_seven byte = byte % 128

-- a value as it is sent: the good byte with the same low seven bits
unfoldable pub sent_of : ℕ → ℕ
sent_of value = pick (is_good (low_seven value)) (low_seven value) (low_seven value + 0x80)
