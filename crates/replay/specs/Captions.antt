-- The caption decoder as an instance of the theory of log, slots and replay.
-- Paper 01, "Record, log, tray": the numbers 1,984, 1,000, 16 and 16,000; demand 3.
-- Assumes nothing.
use Rattle.std.specs.Prelude.{ℕ}
use Rattle.state.specs.State.{Desk}
use Rattle.decode.specs.Step.{taken_of, select_of, fresh_desk}
use Rattle.record.specs.Layout.{record_of, read_of}
use Rattle.valid.specs.Valid.{is_valid}
use Rattle.standing.specs.Acts.{Act, pair, select}
use Rattle.standing.specs.Decoder.{Decoder}

-- an act of the desk: a pair is taken, or a channel selected
abbrev pub step_of : Desk → Act → Desk
step_of d (pair x y) = taken_of d x y
step_of d (select c) = select_of d c

abbrev pub count_of : Desk → ℕ
count_of d = d.state.acts

abbrev pub caption_decoder : Decoder
caption_decoder = record {
  Desk = Desk;
  fresh = fresh_desk;
  step = step_of;
  count = count_of;
  record_of = record_of;
  read_of = read_of;
  is_valid = is_valid;
  size = 1984;
  spacing = 1000;
  slots = 16;
  limit = 16000;
}
