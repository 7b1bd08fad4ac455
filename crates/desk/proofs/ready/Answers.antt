-- `ready` meets its contract: a valid record has the length that reading it asks. Assumes nothing.
use mathlib.Core.Path.{sym, ◌∙◌}
use Rattle.valid.proofs.Laws.{is_valid-length}
use Rattle.desk.specs.Numbers.{ready_of}
use Rattle.desk.proofs.ready.Goals as goal

pub returns-then-not-sized : goal.returns-then-not-sized
unfolding ready_of
returns-then-not-sized c = rw c.if-not-sized.true

pub returns-then-not-is_valid : goal.returns-then-not-is_valid
unfolding ready_of
returns-then-not-is_valid c = rw (c.if-not-sized.false, sym c.is_valid.ensures ∙ c.if-not-is_valid.true)

pub read_state-requires : goal.read_state-requires
read_state-requires c = is_valid-length _ (sym c.is_valid.ensures ∙ c.if-not-is_valid.false)

pub returns : goal.returns
unfolding ready_of
returns c = rw (c.if-not-sized.false, sym c.is_valid.ensures ∙ c.if-not-is_valid.false, c.read_state.ensures)
