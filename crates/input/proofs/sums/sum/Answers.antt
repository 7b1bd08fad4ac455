-- The fold takes the sum at each byte, which comes to the sum of all of them. Assumes nothing.
use Rattle.std.proofs.Common.{rules, ◌≡◌, ◌+◌, ◌*◌, ◌%◌, ◌∙◌}
use Rattle.std.specs.List.{fold}
use Rattle.input.proofs.LawsOfSums.{fold_sums}
use Rattle.input.proofs.sums.sum.Goals as goal

pub returns : goal.returns
returns c =
    let folded : c.fold.result ≡ fold (λ n b. (n * 256 + b) % 4294967291) (c.args.before % 4294967291) c.args.bytes.now = search rules in
    folded ∙ fold_sums c.args.before c.args.bytes.now
