-- `write_counts` meets its contract. Assumes nothing.
use mathlib.Core.Path.{◌≡◌, ap, sym, ◌∙◌}
use Prim.Native.Nat.{ℕ}
use native.Mathlib.Omega.{arith}
use lib.ListN.{drop}
use borrow.Author.Rules.{rules}
use Rattle.facts.specs.Over.{over}
use Rattle.facts.proofs.Over.{over_nil}
use Rattle.record.proofs.LawsOfCounts.{counts_to, counts_more, counts_of-rows}
use Rattle.record.proofs.write_counts.Goals as goal

pub loop-r-init : goal.loop-r-init
loop-r-init c = (search rules, sym (over_nil c.args.bytes.now 19))

pub loop-r-preserved : goal.loop-r-preserved
loop-r-preserved c =
    let a = c.args in
    (search rules, counts_more a.bytes.now c.loop-r.r (omega arith) c.loop-r.invariant.1 c.count_cells.ensures)

pub returns : goal.returns
returns c =
    let bs = c.args.bytes.now in
    let e : c.loop-r.r ≡ 30 = omega arith in
    c.loop-r.invariant.1 ∙ ap (λ (n : ℕ). over bs 19 (counts_to (drop 64 bs) n)) e ∙ ap (over bs 19) (sym (counts_of-rows (drop 64 bs)))
