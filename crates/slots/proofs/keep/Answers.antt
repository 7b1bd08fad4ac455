-- `keep` meets its contract. Assumes nothing.
use mathlib.Core.Path.{◌∙◌}
use Prim.Native.Nat.{◌+◌, ◌-◌, ◌*◌, ◌/◌}
use native.Mathlib.Omega.{arith}
use Rattle.standing.proofs.Within.{keep_slot, keep_none}
use Rattle.record.proofs.Laws.{length-record_of}
use Rattle.record.specs.Layout.{record_of}
use Rattle.state.specs.State.{desk}
use Rattle.facts.proofs.Over.{part-over}
use Rattle.replay.specs.Captions.{caption_decoder}
use Rattle.slots.proofs.keep.Goals as goal

pub returns-then-acts-eq0 : goal.returns-then-acts-eq0
returns-then-acts-eq0 c =
    let a = c.args in
    let s = a.state.acts / 1000 - 1 in
    let r = record_of (desk a.state a.cells.now) in
    part-over a.tray.now (s * 1984) (s * 1984 + 1984 - s * 1984) (length-record_of (desk a.state a.cells.now) (omega arith) ∙ omega arith) (omega arith) c.write.ensures
    ∙ keep_slot caption_decoder a.tray.now a.state.acts r c.if-acts-eq0.true

pub returns-else-acts-eq0 : goal.returns-else-acts-eq0
returns-else-acts-eq0 c =
    let a = c.args in
    keep_none caption_decoder a.tray.now a.state.acts (record_of (desk a.state a.cells.now)) c.if-acts-eq0.false
