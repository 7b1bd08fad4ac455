-- A programme is a list of cues: a screen is loaded, held and shown, the display is cleared, or frames pass with nothing; each for its channel.
-- Paper 02, request 1: "Trainees need captions to practise on."; Paper 01, "Reel and register": "one frame a line, frames from 1".
-- Assumes nothing.
use Rattle.std.specs.Prelude.{ℕ, zero, suc, ◌≤◌, ◌≡◌, true, List, [], ◌∷◌, ◌++◌, length}
use Rattle.tape.specs.Item.{edm_item, eoc_item, bytes_of}
use Rattle.tape.specs.Writable.{are_cells, is_writable}
use Rattle.tape.specs.Tape.{loading_of}

-- pairs that say nothing: two nulls each, with their parity bits
abbrev pub nulls_of : ℕ → List ℕ
nulls_of zero = []
nulls_of (suc n) = 0x80 ∷ 0x80 ∷ nulls_of n

-- `show memory channel held`: loaded at once, and shown behind so many frames of nothing; `clear channel`: EDM; `wait n`: frames of nothing
pub data Cue : Type 0 where
  show : List ℕ → ℕ → ℕ → Cue
  clear : ℕ → Cue
  wait : ℕ → Cue

abbrev pub cue_of : Cue → List ℕ
cue_of (show memory channel held) = loading_of memory channel ++ (nulls_of held ++ bytes_of channel eoc_item)
cue_of (clear channel) = bytes_of channel edm_item
cue_of (wait n) = nulls_of n

-- the raw bytes of a programme
abbrev pub programme_of : List Cue → List ℕ
programme_of [] = []
programme_of (c ∷ more) = cue_of c ++ programme_of more

-- a screen that can be shown: 15 rows of 32 cells of two bytes, valid, and writable
pub record Showable (memory : List ℕ) : Type 0 where
  pub whole : length memory ≡ 960
  pub valid : are_cells memory ≡ true
  pub writable : is_writable memory ≡ true

-- "channel 1 or 2"
abbrev pub IsChannel : ℕ → Type 0
IsChannel channel = (1 ≤ channel) × (channel ≤ 2)

-- cues that a programme can keep
abbrev pub IsFair : Cue → Type 0
IsFair (show memory channel held) = Showable memory × IsChannel channel
IsFair (clear channel) = IsChannel channel
IsFair (wait n) = Unit

abbrev pub AreFair : List Cue → Type 0
AreFair [] = Unit
AreFair (c ∷ more) = IsFair c × AreFair more
