-- `switch` meets its contract. Assumes nothing.
use mathlib.Core.Path.{refl, sym, ◌∙◌}
use native.Mathlib.Omega.{arith}
use Rattle.steps.specs.Take.{Take, take, went, switch_of}
use Rattle.steps.specs.Hand.{take_of}
use Rattle.steps.proofs.LawsOfHand.{does_same, does_stopped}
use Rattle.steps.proofs.LawsOfChannels.{channel_drawn, channel_kept, channel_none}
use Rattle.steps.proofs.Hand.switch.Goals as goal

pub returns-then-self-clause-does : goal.returns-then-self-clause-does
returns-then-self-clause-does c =
    let h = c.args.self in
    λ screen out. does_stopped (λ (t : Take). switch_of t c.args.number) h screen out (λ cues n. channel_drawn (take_of h screen cues) c.args.number c.if-self.true)

pub returns-in-1-clause-does : goal.returns-in-1-clause-does
returns-in-1-clause-does c =
    let h = c.args.self in
    let number = c.args.number in
    λ screen out. does_same (λ (t : Take). switch_of t number) h screen out refl
    (λ cues n. channel_kept (take_of h screen cues) number c.if-self.false (omega (arith, c.in-1.is)) (omega (arith, c.in-1.is))
    ∙ (λ i. went 0 0 (take (c.in-1.is i) (sym c.if-self.false i) screen cues)))

pub returns-in-2-clause-does : goal.returns-in-2-clause-does
returns-in-2-clause-does c =
    let h = c.args.self in
    let number = c.args.number in
    λ screen out. does_same (λ (t : Take). switch_of t number) h screen out refl
    (λ cues n. channel_kept (take_of h screen cues) number c.if-self.false (omega (arith, c.in-2.is)) (omega (arith, c.in-2.is))
    ∙ (λ i. went 0 0 (take (c.in-2.is i) (sym c.if-self.false i) screen cues)))

pub returns-in_default-clause-does : goal.returns-in_default-clause-does
returns-in_default-clause-does c =
    let h = c.args.self in
    λ screen out. does_stopped (λ (t : Take). switch_of t c.args.number) h screen out
    (λ cues n. channel_none (take_of h screen cues) c.args.number c.if-self.false (λ k. absurd (omega arith)) (λ k. absurd (omega arith)))
