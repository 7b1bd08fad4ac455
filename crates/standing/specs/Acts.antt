-- An act is a pair of bytes that was taken or a channel that was selected, and the log has three bytes for it.
-- Paper 01, "Record, log, tray" (the log, well formed acts) and "Numbers given back" (2).
-- Assumes nothing.
use Rattle.std.specs.Prelude.{ℕ, ◌+◌, ◌*◌, ◌<◌, ◌≡◌, List, [], ◌∷◌, Bool, true, ◌&&◌, ◌||◌, eqb, leb, get_or}
use Rattle.facts.specs.Choice.{pick}
use Rattle.facts.specs.Every.{every}

-- "1 and the two raw bytes, or 2, channel, 0": what the log tells apart
pub data Act : Type 0 where
  pair : ℕ → ℕ → Act
  select : ℕ → Act

-- "Selecting channel 1 or 2"
unfoldable pub is_channel : ℕ → Bool
is_channel c = leb 1 c && leb c 2

-- what 2 does not refuse, "channel not 1–2": any pair, and channel 1 or 2
abbrev pub is_allowed : Act → Bool
is_allowed (pair x y) = true
is_allowed (select c) = is_channel c

-- an act that can stand: a pair of two bytes, or channel 1 or 2
abbrev pub Meant : Act → Type 0
Meant (pair x y) = (x < 256) × (y < 256)
Meant (select c) = is_channel c ≡ true

-- "three an act: 1 and the two raw bytes, or 2, channel, 0"
abbrev pub kind_of : Act → ℕ
kind_of (pair x y) = 1
kind_of (select c) = 2

abbrev pub first_of : Act → ℕ
first_of (pair x y) = x
first_of (select c) = c

abbrev pub second_of : Act → ℕ
second_of (pair x y) = y
second_of (select c) = 0

abbrev pub entry_of : Act → List ℕ
entry_of a = kind_of a ∷ first_of a ∷ second_of a ∷ []

-- three bytes read as an act
unfoldable pub act_of : ℕ → ℕ → ℕ → Act
act_of kind x y = pick (eqb kind 1) (pair x y) (select x)

-- "well formed": 1 with any two bytes, or 2, 1 or 2, 0
unfoldable pub is_formed : ℕ → ℕ → ℕ → Bool
is_formed kind x y = eqb kind 1 || (eqb kind 2 && (is_channel x && eqb y 0))

-- what f says of three bytes of the log, those behind the first i acts
abbrev pub at_act : {A : Type 0} → (ℕ → ℕ → ℕ → A) → List ℕ → ℕ → A
at_act f log i = f (get_or log (i * 3) 0) (get_or log (i * 3 + 1) 0) (get_or log (i * 3 + 2) 0)

-- "the acts from there to m must be well formed": n acts behind the first `from`
unfoldable pub are_formed : List ℕ → ℕ → ℕ → Bool
are_formed log from n = every (λ i. at_act is_formed log (from + i)) n
