-- `put_codes` meets its contract. Assumes nothing.
use mathlib.Core.Path.{◌≡◌}
use Prim.Native.Nat.{◌-◌, ◌*◌, ◌≤◌}
use Rattle.facts.specs.Over.{over}
use Rattle.lines.specs.Line.{codes_of}
use Rattle.lines.proofs.put_codes.Given as goal

abbrev pub invariant-loop-k : goal.invariant-loop-k
invariant-loop-k l = record { high : l.k - l.from ≤ l.end - l.from; next : l.n ≡ (l.k - l.from) * 2; bytes : l.out ≡ over l.initial.out 0 (codes_of l.screen l.at l.from (l.k - l.from)) }
