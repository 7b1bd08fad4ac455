-- `lead` meets its contract. Assumes nothing.
use mathlib.Core.Path.{◌≡◌}
use borrow.Author.Tests.{tests}
use borrow.Author.Rules.{rules}
use Rattle.std.proofs.lemmas.Iterator.{first_from_Range}
use Rattle.lines.specs.Span.{code_at}
use Rattle.lines.proofs.Printed.{lead_of_found}
use Rattle.lines.proofs.lead.Goals as goal

pub returns : goal.returns
returns c =
    let a = c.args in
    rw c.unwrap_or.ensures
    (lead_of_found a.screen.now a.at 32 c.find.result
    (first_from_Range _ _ _ c.find.result (λ k. code_at a.screen.now a.at k ≡ 0 → ⊥) (λ k. code_at a.screen.now a.at k ≡ 0) c.find.ensures.ran (λ x q k. search (rules, tests)) (λ x q k. search (rules, tests))))
