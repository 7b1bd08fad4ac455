-- `is_writable` meets its contract: the rows are tested one behind the other. Assumes nothing.
use mathlib.Core.Path.{refl, ◌∙◌}
use Prim.Native.Nat.{ℕ, ◌*◌}
use borrow.Author.Rules.{rules}
use Rattle.std.proofs.lemmas.Iterator.{YieldsList-from_range}
use Rattle.std.proofs.lemmas.Iterator.Search.{all_from_yields_List}
use Rattle.tape.specs.Writable.{is_row_writable}
use Rattle.writable.proofs.LawsOfChecks.{rows-joined}
use Rattle.writable.proofs.is_writable.Goals as goal

pub returns : goal.returns
returns c =
    let test = λ (r : ℕ). is_row_writable c.args.memory.now (r * 64) in
    all_from_yields_List test _ _ _ c.all.ensures.ran (YieldsList-from_range 0 15 15 refl refl) (λ x b q k. search rules) ∙ rows-joined c.args.memory.now
