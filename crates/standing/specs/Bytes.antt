-- The bytes that standing acts lead to, said without any call.
-- Paper 01, "Record, log, tray"; the archive's demand 3.
-- Assumes nothing.
use Rattle.std.specs.Prelude.{ℕ, zero, suc, ◌*◌, List, [], ◌∷◌, ◌++◌, leb, length, take, replicate}
use Rattle.facts.specs.Choice.{pick}
use Rattle.standing.specs.Acts.{Act, entry_of}
use Rattle.standing.specs.Decoder.{Decoder}
use Rattle.standing.specs.Calls.{Buffers, three}

-- n blocks of bytes one after the other, the first being block 0
abbrev pub blocks : (ℕ → List ℕ) → ℕ → List ℕ
blocks f zero = []
blocks f (suc n) = blocks f n ++ f n

-- the log behind i acts: the next act's three bytes, zeros where none stands
abbrev pub entry_at : List Act → ℕ → List ℕ
entry_at [] i = 0 ∷ 0 ∷ 0 ∷ []
entry_at (a ∷ acts) zero = entry_of a
entry_at (a ∷ acts) (suc i) = entry_at acts i

module _ (D : Decoder) where
  open D use {Desk, fresh, step, record_of, size, spacing, slots, limit}

  -- a desk after acts, and the desk after acts from the fresh one
  abbrev pub run : Desk → List Act → Desk
  run d [] = d
  run d (a ∷ acts) = run (step d a) acts

  abbrev pub desk_of : List Act → Desk
  desk_of acts = run fresh acts

  -- slot i + 1: the record as it was when the act count reached i + 1 times 1,000, zeros if it did not
  abbrev pub slot_at : List Act → ℕ → List ℕ
  slot_at acts i = pick (leb (suc i * spacing) (length acts)) (record_of (desk_of (take (suc i * spacing) acts))) (replicate size 0)

  -- the record after all acts, the log of `limit` acts, the tray of all slots
  abbrev pub buffers_of : List Act → Buffers
  buffers_of acts = three (record_of (desk_of acts)) (blocks (entry_at acts) limit) (blocks (slot_at acts) slots)
