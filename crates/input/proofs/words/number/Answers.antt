-- One letter more at each turn. Assumes nothing.
use Rattle.std.proofs.Common.{rules, ◌≡◌, ◌+◌, ◌*◌, ◌%◌, ◌∙◌, take, get_or, ap, sym}
use Rattle.std.proofs.lemmas.List.Sums.{fold_more}
use Rattle.input.specs.Words.{decimal_of}
use Rattle.input.proofs.LawsOfWords.{add_digit}
use Rattle.input.proofs.words.number.Goals as goal

pub loop-letter-preserved : goal.loop-letter-preserved
loop-letter-preserved g c h known =
    let l = c.loop-letter in
    let letters = c.args.letters.now in
    let before = decimal_of h (take l.letter-index letters) in
    let worth : c.from.result ≡ h (get_or letters l.letter-index 0) = c.from.ensures ∙ known (get_or letters l.letter-index 0) _ (search (rules, c.type_inv.letters)) c.value.ensures in
    ((ap (λ n. (n * 10 % 4294967296 + c.from.result) % 4294967296) (l.invariant h known)
    ∙ ap (λ b. (before % 4294967296 * 10 % 4294967296 + b) % 4294967296) worth)
    ∙ add_digit before (h (get_or letters l.letter-index 0)))
    ∙ sym (ap (λ n. n % 4294967296) (fold_more (λ n b. n * 10 + h b) 0 letters l.letter-index 0 c.loop-letter-test.true))
