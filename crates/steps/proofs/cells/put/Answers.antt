-- `put` meets its contract. Assumes nothing.
use mathlib.Core.Path.{sym, ◌∙◌}
use Rattle.steps.specs.Take.{Take, put_of}
use Rattle.steps.proofs.LawsOfHand.{does_exit}
use Rattle.steps.proofs.LawsOfCells.{does_put, stops_put, stops_place}
use Rattle.steps.proofs.cells.put.Goals as goal

pub returns-then-not-is_place-clause-does : goal.returns-then-not-is_place-clause-does
returns-then-not-is_place-clause-does c =
    let a = c.args in
    stops_place a.hand a.screen.now a.row a.column a.pen a.codes.now (sym c.is_place.ensures ∙ c.if-not-is_place.true)

pub returns-in_err-put_row-clause-does : goal.returns-in_err-put_row-clause-does
returns-in_err-put_row-clause-does c =
    let a = c.args in
    let wrong = c.in_err-put_row.ensures in
    λ out. does_exit (λ (t : Take). put_of t a.row a.column a.pen a.codes.now) a.hand a.screen.now out c.from_residual.result c.from_residual.ensures.1
    (stops_put a.hand a.screen.now a.row a.column a.pen a.codes.now (sym c.is_place.ensures ∙ c.if-not-is_place.false) wrong.typed wrong.wrong wrong.earliest out)

pub returns-clause-does : goal.returns-clause-does
returns-clause-does c =
    let a = c.args in
    let kept = c.in_ok-put_row.ensures in
    does_put a.hand a.screen.now a.row a.column a.pen a.codes.now (sym c.is_place.ensures ∙ c.if-not-is_place.false) kept.typed kept.wrong
