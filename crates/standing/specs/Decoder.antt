-- What log, slots and replay need of a decoder: its desks, what an act does to one, the record of a desk, and four numbers.
-- Paper 01, "Record, log, tray"; none of its words on captions.
-- Assumes nothing.
use Rattle.std.specs.Prelude.{ℕ, ◌+◌, ◌/◌, ◌<◌, ◌≤◌, ◌≡◌, List, Bool, true, length}
use Rattle.standing.specs.Acts.{Act, Meant}

-- "The desk is one record of 1,984 bytes": desks, their records, and the numbers of log and tray
pub record Decoder : Type 1 where
  pub Desk : Type 0
  pub fresh : Desk
  pub step : Desk → Act → Desk
  -- "standing acts"
  pub count : Desk → ℕ
  pub record_of : Desk → List ℕ
  pub read_of : List ℕ → Desk
  pub is_valid : List ℕ → Bool
  -- bytes of a record: 1,984
  pub size : ℕ
  -- acts from one slot to the next: 1,000
  pub spacing : ℕ
  -- slots of the tray: 16
  pub slots : ℕ
  -- acts that can stand: 16,000
  pub limit : ℕ

-- The laws that a decoder owes. Sound desks are its own choice: the fresh one is sound, and acts lead from sound desks to sound ones.
pub record Lawful (D : Decoder) : Type 1 where
  pub Sound : D.Desk → Type 0
  pub fresh_sound : Sound D.fresh
  pub count_fresh : D.count D.fresh ≡ 0
  pub step_keeps_sound : (d : D.Desk) (a : Act) → Sound d → D.count d < D.limit → Meant a → Sound (D.step d a)
  pub count_step : (d : D.Desk) (a : Act) → Sound d → D.count d < D.limit → Meant a → D.count (D.step d a) ≡ D.count d + 1
  -- the record of a sound desk has its size, is valid and is read as that desk
  pub length-record_of : (d : D.Desk) → Sound d → length (D.record_of d) ≡ D.size
  pub is_valid-record_of : (d : D.Desk) → Sound d → D.is_valid (D.record_of d) ≡ true
  pub read_of_record_of : (d : D.Desk) → Sound d → D.read_of (D.record_of d) ≡ d
  -- slots lie apart, and there is one for each that acts can reach
  pub spacing_positive : 0 < D.spacing
  pub slots_enough : D.limit / D.spacing ≤ D.slots
