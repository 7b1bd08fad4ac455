-- What every act keeps of a desk, as facts that proofs use: a valid record has these, and no more is asked of it.
-- Paper 01, "Record, log, tray": the line "Valid".
-- Assumes nothing.
use Rattle.std.specs.Prelude.{◌≤◌, ◌≡◌, true}
use Rattle.codes.specs.Assigned.{is_expected}
use Rattle.state.specs.State.{Desk}
use Rattle.state.specs.Ranges.{Sound}
use Rattle.decode.specs.Pair.{captions_of}

pub record SoundDesk (d : Desk) : Type 0 where
  pub acts : d.state.acts ≤ 16000
  pub selected_low : 1 ≤ d.state.selected
  pub selected_high : d.state.selected ≤ 2
  pub stream : d.state.stream ≤ 2
  pub expected : is_expected d.state.first d.state.second ≡ true
  pub captions : Sound (captions_of d)
