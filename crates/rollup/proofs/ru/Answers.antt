-- `ru` meets its contract. Assumes nothing.
use mathlib.Core.Path.{ap}
use Rattle.state.specs.State.{Captions, captions}
use Rattle.rollup.proofs.Laws.{opened_of_sound, opened_of_fits}
use Rattle.rollup.proofs.ru.Goals as goal

pub framed-requires : goal.framed-requires
framed-requires c =
    let d = captions c.args.mode c.args.cells.now in
    let e = c.opened-open.ensures in
    let h = c.requires.0 in
    let high = c.requires.1 in
    (rw e (opened_of_sound d h _ high), rw (ap (λ (x : Captions). x.mode.roll.row.0) e) (opened_of_fits d h _ high))
