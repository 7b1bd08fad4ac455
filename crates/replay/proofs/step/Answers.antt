-- `step` meets its contract. Assumes nothing.
use mathlib.Core.Path.{ap, ◌∙◌}
use Rattle.state.specs.State.{desk}
use Rattle.replay.specs.Captions.{step_of}
use Rattle.replay.proofs.Laws.{act_of_pair, act_of_select}
use Rattle.replay.proofs.step.Goals as goal

pub returns-then-act-eq1 : goal.returns-then-act-eq1
returns-then-act-eq1 c =
    let a = c.args in
    c.take.ensures ∙ ap (step_of (desk a.state a.cells.now)) (act_of_pair a.act.kind a.act.first a.act.second c.if-act-eq1.true)

pub returns-else-act-eq1 : goal.returns-else-act-eq1
returns-else-act-eq1 c =
    let a = c.args in
    c.select.ensures ∙ ap (step_of (desk a.state a.cells.now)) (act_of_select a.act.kind a.act.first a.act.second c.if-act-eq1.false)
