-- Three bytes of the log, as the code holds them.
-- Paper 01, "Record, log, tray": "three an act: 1 and the two raw bytes, or 2, channel, 0".
-- Assumes nothing.
use Rattle.std.specs.Prelude.{ℕ}
use Rattle.replay.specs.declared.Entry.{Entry}

abbrev pub entry : ℕ → ℕ → ℕ → Entry
entry kind first second = record { kind = kind; first = first; second = second }
