-- `carry` meets its contract: what was held is written back behind the wipe. Assumes nothing.
use mathlib.Core.Path.{◌≡◌, ap, ◌∙◌}
use mathlib.Core.List.{List}
use Prim.Native.Nat.{ℕ, ◌+◌, ◌-◌}
use native.Mathlib.Nat.{add-sub_cancel_left}
use native.Mathlib.Omega.{arith}
use borrow.Rule.Slice.PartMut.{put_mid}
use Rattle.std.proofs.lemmas.Grind.{common_steps}
use Rattle.facts.specs.Over.{over, part}
use Rattle.facts.proofs.Over.{over_lent, length-part}
use Rattle.facts.proofs.carry.Goals as goal

pub returns : goal.returns
returns c =
    let a = c.args in
    let d = a.bytes.now in
    let cut : (a.from + a.n) - a.from ≡ a.n = add-sub_cancel_left a.from a.n in
    let held : c.copy_from_slice-2.new.self ≡ part d a.from a.n = grind (arith, common_steps) in
    ap (put_mid a.to ((a.to + a.n) - a.to) c.wipe.new.bytes) held
    ∙ over_lent c.wipe.new.bytes a.to a.n (part d a.from a.n) (length-part d a.from a.n c.requires.2) (omega arith)
    ∙ ap (λ (l : List ℕ). over l a.to (part d a.from a.n)) c.wipe.ensures
