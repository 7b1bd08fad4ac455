-- `write_fields` meets its contract: the array is the fields in the paper's order. Assumes nothing.
use mathlib.Core.Path.{◌≡◌, ap, ◌∙◌}
use mathlib.Core.List.{List, ◌∷◌}
use Prim.Native.Nat.{ℕ, ◌/◌, ◌%◌}
use native.Mathlib.Omega.{arith}
use lib.ListN.{get_or, drop}
use Rattle.facts.specs.Over.{over}
use Rattle.record.specs.Layout.{fields_of}
use Rattle.record.proofs.write_fields.Goals as goal

pub returns : goal.returns
returns c =
    let s = c.args.state in
    let low : get_or c.to_le_bytes.result 0 0 ≡ s.acts % 256 = ap (λ (l : List ℕ). get_or l 0 0) c.to_le_bytes.ensures in
    let high : get_or c.to_le_bytes.result 1 0 ≡ s.acts / 256 = ap (λ (l : List ℕ). get_or l 1 0) c.to_le_bytes.ensures ∙ omega arith in
    c.copy.ensures ∙ (λ i. over c.args.bytes.now 0 (low i ∷ high i ∷ drop 2 (fields_of s)))
