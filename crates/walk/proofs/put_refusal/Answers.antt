-- `put_refusal` meets its contract. Assumes nothing.
use mathlib.Core.Path.{◌≡◌, sym, ap, ◌∙◌}
use mathlib.Core.Bool.{Bool}
use lib.Dec.{eqb}
use borrow.Author.Tests.{eq-eqb, ne_eqb}
use Rattle.facts.specs.Choice.{pick}
use Rattle.runs.specs.Frames.{most}
use Rattle.walk.proofs.LawsOfSteps.{refusal_none, refusal_some}
use Rattle.walk.proofs.put_refusal.Goals as goal
use Rattle.walk.proofs.put_refusal.Goals.{then-frame-eq-MOST, else-frame-eq-MOST}

pub returns-then-size-frame : goal.returns-then-size-frame
returns-then-size-frame c = let a = c.args in refusal_none a.out.now a.size a.frame c.if-size-frame.true

pub returns : goal.returns
returns c =
    let a = c.args in
    let number : pick (eqb a.frame most) 3 5 ≡ c.if-frame-eq-MOST.number = elim c.if-frame-eq-MOST.branch [
      | then-frame-eq-MOST w ↦ ap (λ (b : Bool). pick b 3 5) (eq-eqb _ _ w.if-frame-eq-MOST.true) ∙ sym w.number-is
      | else-frame-eq-MOST w ↦ ap (λ (b : Bool). pick b 3 5) (ne_eqb _ _ w.if-frame-eq-MOST.false) ∙ sym w.number-is
    ] in
    refusal_some a.out.now a.size a.frame c.if-frame-eq-MOST.number c.if-size-frame.false number c.put_refused.ensures
