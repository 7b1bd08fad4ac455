-- `write_counts` meets its contract. Assumes nothing.
use mathlib.Core.Path.{◌≡◌}
use Prim.Native.Nat.{◌-◌, ◌≤◌}
use lib.ListN.{length, drop}
use Rattle.facts.specs.Over.{over}
use Rattle.record.proofs.LawsOfCounts.{counts_to}
use Rattle.record.proofs.write_counts.Given as goal

abbrev pub invariant-loop-r : goal.invariant-loop-r
invariant-loop-r l = (length l.bytes ≡ length l.initial.bytes) × (l.bytes ≡ over l.initial.bytes 19 (counts_to (drop 64 l.initial.bytes) l.r))
