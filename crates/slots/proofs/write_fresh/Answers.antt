-- `write_fresh` meets its contract. Assumes nothing.
use mathlib.Core.Path.{ap, ◌∙◌}
use Prim.Native.Nat.{ℕ}
use lib.ListN.{drop, replicate}
use Rattle.record.specs.Layout.{record_of}
use Rattle.state.specs.State.{desk}
use Rattle.slots.proofs.Laws.{fresh_before_zeros}
use Rattle.slots.proofs.write_fresh.Goals as goal

pub returns : goal.returns
returns c =
    let zeros = c.blank.ensures ∙ ap (λ (n : ℕ). replicate n 0) c.requires in
    c.write_head.ensures ∙ (λ i. record_of (desk (c.fresh.ensures i) (drop 64 (zeros i)))) ∙ fresh_before_zeros
