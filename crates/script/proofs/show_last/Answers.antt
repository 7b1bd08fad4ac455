-- `show_last` meets its contract. Assumes nothing.
use mathlib.Core.Path.{◌≡◌, ap, ◌∙◌}
use mathlib.Core.Bool.{false, not}
use Rattle.std.specs.Prelude.{Ok, Err, is_some}
use Rattle.facts.proofs.Choice.{and_left, and_right}
use Rattle.script.proofs.LawsOfSteps.{none_is, last_shown, last_kept}
use Rattle.script.proofs.show_last.Goals as goal

pub returns-in-Ok-clause-goes : goal.returns-in-Ok-clause-goes
returns-in-Ok-clause-goes c =
    let r = c.args.reached in
    let right : is_some r.wrong ≡ false = c.is_none.ensures ∙ ap not (and_left c.is_none.result r.hand.drawn c.if-due.true) in
    λ w first g. rw (none_is r.wrong right)
    (last_shown first r.wrong right (and_right c.is_none.result r.hand.drawn c.if-due.true) g (Ok c.in-Ok.hand) c.in-Ok.ensures.does)

pub returns-in-Err-clause-goes : goal.returns-in-Err-clause-goes
returns-in-Err-clause-goes c =
    let r = c.args.reached in
    let right : is_some r.wrong ≡ false = c.is_none.ensures ∙ ap not (and_left c.is_none.result r.hand.drawn c.if-due.true) in
    λ w first g. last_shown first r.wrong right (and_right c.is_none.result r.hand.drawn c.if-due.true) g (Err c.in-Err.wrong) c.in-Err.ensures.does

pub returns-clause-goes : goal.returns-clause-goes
returns-clause-goes c = λ w first g. last_kept first c.args.reached.wrong c.is_none.result c.is_none.ensures c.if-due.false g
