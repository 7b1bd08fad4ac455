-- `put_rows` meets its contract. Assumes nothing.
use mathlib.Core.Path.{◌≡◌}
use native.Mathlib.Omega.{arith}
use borrow.Author.Rules.{rules}
use Rattle.tape.specs.Channel.{number_of_channel}
use Rattle.items.proofs.LawsOfLaid.{laid_none, room_rest}
use Rattle.writer.proofs.Laws.{rows_none, rows_more, rows-room}
use Rattle.writer.proofs.put_rows.Goals as goal

pub loop-row-init : goal.loop-row-init
loop-row-init c = let a = c.args in laid_none a.out.now (rows_none (number_of_channel a.channel) a.memory.now)

pub put_row-n-requires : goal.put_row-n-requires
put_row-n-requires c =
    let a = c.args in
    let l = c.loop-row in
    (search rules, room_rest a.out.now _ _ (rows-room (number_of_channel a.channel) a.memory.now a.out.now l.row c.loop-row-test.true c.requires) l.invariant)

pub loop-row-preserved : goal.loop-row-preserved
loop-row-preserved c =
    let a = c.args in
    let l = c.loop-row in
    rows_more (number_of_channel a.channel) a.memory.now a.out.now l.row c.loop-row-test.true c.requires l.invariant c.put_row-n.ensures

pub returns : goal.returns
returns c = let l = c.loop-row in let e : l.row ≡ 15 = omega arith in rw e at l.invariant
