-- `number` meets its contract. Assumes nothing.
use Rattle.std.proofs.Common.{arith, length, ap}
use Rattle.texts.proofs.Laws.{five_digits}
use Rattle.texts.proofs.words.number.Goals as goal

pub returns : goal.returns
returns c =
    let short = five_digits c.in-Ok.digits.now c.parse.result (omega (arith, ap length c.in-Ok.ensures.cases.0)) c.parse.ensures.value.0 in
    rw c.ok.ensures.value short
