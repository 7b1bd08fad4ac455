-- `step` meets its contract. Assumes nothing.
use mathlib.Core.Path.{refl, ap, sym, ◌∙◌}
use native.Mathlib.Omega.{arith}
use Rattle.lines.proofs.Laws.{put_as}
use Rattle.runs.proofs.Laws.{next_below}
use Rattle.walk.specs.declared.Walk.{Walk}
use Rattle.walk.specs.Walk.{place}
use Rattle.walk.proofs.Stages.{frames_live}
use Rattle.walk.proofs.LawsOfSteps.{step_header, step_line, step_finish}
use Rattle.pieces.proofs.step.Goals as goal

pub returns-in-Header : goal.returns-in-Header
returns-in-Header c =
    let a = c.args in
    let s = step_header (place a.w a.cells.now a.held.now) a.reel.now c.in-Header.is in
    (sym s.0, put_as {a = 18} (sym s.1) (omega arith) (record { bytes = c.put_header.ensures; next = refl; room = omega arith }))

pub show-requires : goal.show-requires
show-requires c = let a = c.args in (c.requires.0, next_below a.reel.now a.w.frame (sym c.next_line.ensures ∙ c.in-Pair.is), c.requires.2)

pub returns-in-Pair : goal.returns-in-Pair
returns-in-Pair c =
    let a = c.args in
    let one = frames_live a.w.stage c.in-Frames.is c.requires.1 in
    let s = step_line (place a.w a.cells.now a.held.now) a.reel.now one (sym c.next_line.ensures ∙ c.in-Pair.is) in
    (rw s.0 c.show.ensures.0, put_as (sym s.1) (omega arith) c.show.ensures.1)

pub returns-in-End : goal.returns-in-End
returns-in-End c =
    let a = c.args in
    let one = frames_live a.w.stage c.in-Frames.is c.requires.1 in
    let s = step_finish (place a.w a.cells.now a.held.now) a.reel.now one (sym c.next_line.ensures) c.in-End.is in
    (ap (λ (w : Walk). place w a.cells.now a.held.now) c.finish.ensures.0 ∙ sym s.0, put_as (sym s.1) (omega arith) c.finish.ensures.1)
