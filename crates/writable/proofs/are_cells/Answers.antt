-- `are_cells` meets its contract: the rows are tested one behind the other. Assumes nothing.
use mathlib.Core.Path.{refl, ◌∙◌}
use Prim.Native.Nat.{ℕ, ◌*◌}
use borrow.Author.Rules.{rules}
use Rattle.std.proofs.lemmas.Iterator.{YieldsList-from_range}
use Rattle.std.proofs.lemmas.Iterator.Search.{all_from_yields_List}
use Rattle.valid.specs.Check.{is_row}
use Rattle.writable.proofs.LawsOfChecks.{cells_joined}
use Rattle.writable.proofs.are_cells.Goals as goal

pub returns : goal.returns
returns c =
    let test = λ (r : ℕ). is_row c.args.memory.now (r * 64) in
    all_from_yields_List test _ _ _ c.all.ensures.ran (YieldsList-from_range 0 15 15 refl refl) (λ x b q k. search rules) ∙ cells_joined c.args.memory.now
