-- `put_row` meets its contract. Assumes nothing.
use mathlib.Core.Path.{◌∙◌}
use Prim.Native.Nat.{◌*◌}
use native.Mathlib.Omega.{arith}
use borrow.Author.Rules.{rules}
use Rattle.tape.specs.Channel.{number_of_channel}
use Rattle.items.proofs.LawsOfLaid.{laid_none, laid_then, room_front, room_rest}
use Rattle.writer.proofs.Laws.{lead_inside, row_none, row_some}
use Rattle.writer.proofs.put_row.Goals as goal

pub returns-then-end-eq0 : goal.returns-then-end-eq0
returns-then-end-eq0 c =
    let a = c.args in
    laid_none a.out.now (row_none (number_of_channel a.channel) a.memory.now a.row c.end-end.result c.end-end.ensures.0 c.if-end-eq0.true)

pub preamble_item-item-requires : goal.preamble_item-item-requires
preamble_item-item-requires c =
    let a = c.args in
    let lead = c.lead.ensures.0 in
    (search rules, omega (arith, lead_inside a.memory.now (a.row * 64) (λ z. c.if-end-eq0.false (c.end-end.ensures.0 ∙ z))))

-- the row in two parts: its preamble, and its cells
pub put_item-n-requires : goal.put_item-n-requires
put_item-n-requires c =
    let a = c.args in
    let parts = row_some (number_of_channel a.channel) a.memory.now a.row c.end-end.result c.end-end.ensures.0 c.row_pen-pen.result c.lead.result c.preamble_item-item.result c.if-end-eq0.false c.row_pen-pen.ensures c.lead.ensures.0 c.preamble_item-item.ensures in
    room_front a.out.now _ _ (rw parts at c.requires.1)

pub put_rest-requires : goal.put_rest-requires
put_rest-requires c =
    let a = c.args in
    let pre = c.requires in
    let parts = row_some (number_of_channel a.channel) a.memory.now a.row c.end-end.result c.end-end.ensures.0 c.row_pen-pen.result c.lead.result c.preamble_item-item.result c.if-end-eq0.false c.row_pen-pen.ensures c.lead.ensures.0 c.preamble_item-item.ensures in
    (omega arith, c.end-end.ensures.1, room_rest a.out.now _ _ (rw parts at pre.1) c.put_item-n.ensures)

pub returns : goal.returns
returns c =
    let a = c.args in
    let parts = row_some (number_of_channel a.channel) a.memory.now a.row c.end-end.result c.end-end.ensures.0 c.row_pen-pen.result c.lead.result c.preamble_item-item.result c.if-end-eq0.false c.row_pen-pen.ensures c.lead.ensures.0 c.preamble_item-item.ensures in
    rw parts (laid_then a.out.now _ _ (rw parts at c.requires.1) c.put_item-n.ensures c.put_rest.ensures)
