-- `end` meets its contract. Assumes nothing.
use mathlib.Core.Path.{sym, ◌∙◌}
use Prim.Native.Nat.{◌*◌}
use native.Mathlib.Omega.{arith}
use Rattle.facts.proofs.Every.{blank_at}
use Rattle.lines.proofs.Printed.{end_of_none}
use Rattle.lines.proofs.end.Goals as goal

pub returns-then-is_blank : goal.returns-then-is_blank
returns-then-is_blank c =
    let a = c.args in
    let blank = sym c.is_blank.ensures ∙ c.if-is_blank.true in
    (sym (end_of_none a.screen.now a.at 32 (λ k h. blank_at _ _ _ blank (k * 2) (omega arith))), omega arith)
