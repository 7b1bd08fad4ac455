-- `is_blank` meets its contract: the flag is, after each byte, the test of all bytes up to there. Assumes nothing.
use mathlib.Core.Path.{◌≡◌, refl, ap, sym, ◌∙◌}
use mathlib.Core.Bool.{Bool, true, ◌&&◌}
use mathlib.Core.List.{[], ◌∷◌}
use Prim.Native.Nat.{ℕ}
use native.Mathlib.Nat.{add-sub_cancel_left}
use lib.Dec.{eqb}
use lib.ListN.{take, drop}
use borrow.Author.Rules.{rules}
use Rattle.std.specs.List.{fold}
use Rattle.std.proofs.Common.{tests}
use Rattle.std.proofs.lemmas.List.Sums.{fold-append}
use Rattle.std.proofs.lemmas.Fn.{fold_over, fronts, slice_gives}
use Rattle.facts.proofs.Every.{blank_flag}
use Rattle.facts.proofs.is_blank.Goals as goal

pub returns : goal.returns
returns c =
    let a = c.args in
    let test = λ (flag : Bool) (byte : ℕ). flag && eqb byte 0 in
    let joined = fold test true in
    fold_over fronts (λ y. y.now) _ (λ ys flag. flag ≡ joined ys) _
    (λ ys flag byte next f h k.
    let v : next ≡ test flag byte.now = search (rules, tests) in
    (v ∙ ap (λ (t : Bool). test t byte.now) h ∙ sym (fold-append test true ys (byte.now ∷ [])), refl))
    c.iter.result c.iter.result.rest.now true c.fold.result (slice_gives c.iter.result) refl c.fold.ensures.ran
    ∙ ap joined c.iter.ensures.rest
    ∙ ap (λ (k : ℕ). joined (take k (drop a.at a.bytes.now))) (add-sub_cancel_left a.at a.n)
    ∙ blank_flag a.bytes.now a.at a.n c.requires
