-- `put_rest` meets its contract. Assumes nothing.
use Prim.Native.Nat.{◌+◌}
use native.Mathlib.Omega.{arith}
use Rattle.tape.specs.Channel.{number_of_channel}
use Rattle.tape.specs.Item.{bytes_of}
use Rattle.tape.specs.Tape.{rest_of}
use Rattle.tape.proofs.LawsOfSizes.{rest_end}
use Rattle.items.proofs.LawsOfLaid.{rest_start, rest_room, rest_laid, rest_stop}
use Rattle.writer.proofs.Laws.{items_more}
use Rattle.writer.proofs.put_rest.Goals as goal

pub loop-k-init : goal.loop-k-init
loop-k-init c = let a = c.args in rest_start a.out.now 0 (rest_of (number_of_channel a.channel) a.memory.now a.at a.end a.from)

pub put_item-n-requires : goal.put_item-n-requires
put_item-n-requires c =
    let i = c.item_at-item in
    let a = c.args in
    let rest = rest_of (number_of_channel a.channel) a.memory.now a.at a.end in
    let more = items_more a.memory.now a.at a.end c.loop-k.k (number_of_channel a.channel) i.result c.loop-k-test.true i.ensures.0 in
    rest_room a.out.now (rest a.from) c.requires.2 c.loop-k.invariant (bytes_of (number_of_channel a.channel) i.result) (rest (c.loop-k.k + i.result.columns)) more

pub loop-k-preserved : goal.loop-k-preserved
loop-k-preserved c =
    let i = c.item_at-item in
    let a = c.args in
    let rest = rest_of (number_of_channel a.channel) a.memory.now a.at a.end in
    let more = items_more a.memory.now a.at a.end c.loop-k.k (number_of_channel a.channel) i.result c.loop-k-test.true i.ensures.0 in
    rest_laid a.out.now (rest a.from) c.requires.2 c.loop-k.invariant (bytes_of (number_of_channel a.channel) i.result) (rest (c.loop-k.k + i.result.columns)) more c.put_item-n.ensures

pub returns : goal.returns
returns c =
    let l = c.loop-k in
    let a = c.args in
    let memory = a.memory.now in
    rest_stop a.out.now (rest_of (number_of_channel a.channel) memory a.at a.end a.from) c.requires.2 l.invariant (rest_end (number_of_channel a.channel) memory a.at a.end l.k (omega arith))
