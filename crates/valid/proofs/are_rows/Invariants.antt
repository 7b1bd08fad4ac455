-- `are_rows` meets its contract. Assumes nothing.
use mathlib.Core.Path.{◌≡◌}
use Prim.Native.Nat.{◌+◌, ◌*◌}
use lib.ListN.{get_or}
use Rattle.facts.specs.Every.{every}
use Rattle.valid.specs.Check.{is_counted}
use Rattle.valid.proofs.are_rows.Given as goal

abbrev pub invariant-loop-r : goal.invariant-loop-r
invariant-loop-r l = l.ok ≡ every (λ n. is_counted l.bytes (64 + n * 64) (get_or l.bytes (19 + n) 0)) l.r
