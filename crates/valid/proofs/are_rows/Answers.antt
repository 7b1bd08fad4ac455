-- `are_rows` meets its contract. Assumes nothing.
use mathlib.Core.Path.{◌≡◌, ap, ◌∙◌}
use mathlib.Core.Bool.{◌&&◌}
use Prim.Native.Nat.{ℕ, ◌+◌, ◌*◌}
use native.Mathlib.Omega.{arith}
use lib.ListN.{get_or}
use Rattle.facts.specs.Every.{every}
use Rattle.facts.proofs.Every.{every_more}
use Rattle.valid.specs.Check.{is_counted, are_rows}
use Rattle.valid.proofs.are_rows.Goals as goal

pub loop-r-preserved : goal.loop-r-preserved
loop-r-preserved c =
    let bs = c.args.bytes.now in
    let ok = c.loop-r.ok in
    ap (λ t. ok && t) c.is_counted-ok.ensures ∙ every_more (λ (n : ℕ). is_counted bs (64 + n * 64) (get_or bs (19 + n) 0)) c.loop-r.r c.loop-r.invariant

pub returns : goal.returns
unfolding are_rows
returns c =
    let bs = c.args.bytes.now in
    let e : c.loop-r.r ≡ 30 = omega arith in
    c.loop-r.invariant ∙ ap (every (λ n. is_counted bs (64 + n * 64) (get_or bs (19 + n) 0))) e
