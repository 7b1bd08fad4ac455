-- `put_held` meets its contract. Assumes nothing.
use Rattle.items.proofs.LawsOfLaid.{laid_then, room_front, room_rest}
use Rattle.frames.specs.Held.{last_at}
use Rattle.frames.proofs.Laws.{last_all, held_two, held_all, held_laid}
use Rattle.frames.proofs.put_held.Goals as goal

pub put_pairs-n-requires : goal.put_pairs-n-requires
put_pairs-n-requires c =
    let a = c.args in
    room_front a.out.now _ _ (held_two a.raw.now a.held a.out.now c.requires.1)

pub put_nulls-n-requires : goal.put_nulls-n-requires
put_nulls-n-requires c =
    let a = c.args in
    room_rest a.out.now _ _ (held_two a.raw.now a.held a.out.now c.requires.1) c.put_pairs-n.ensures

pub put_pairs-requires : goal.put_pairs-requires
put_pairs-requires c =
    let a = c.args in
    let both = laid_then a.out.now _ _ (held_two a.raw.now a.held a.out.now c.requires.1) c.put_pairs-n.ensures c.put_nulls-n.ensures in
    rw (last_all a.raw.now (last_at a.raw.now)) (room_rest a.out.now _ _ (held_all a.raw.now a.held a.out.now c.requires.1) both)

pub returns : goal.returns
returns c =
    let a = c.args in
    let both = laid_then a.out.now _ _ (held_two a.raw.now a.held a.out.now c.requires.1) c.put_pairs-n.ensures c.put_nulls-n.ensures in
    held_laid a.raw.now a.held a.out.now c.requires.1 both (rw (last_all a.raw.now (last_at a.raw.now)) at c.put_pairs.ensures)
