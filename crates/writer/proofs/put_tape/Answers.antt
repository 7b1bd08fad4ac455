-- `put_tape` meets its contract. Assumes nothing.
use mathlib.Core.Path.{sym}
use mathlib.Core.List.{List, ◌++◌}
use Prim.Native.Nat.{ℕ, ◌≤◌}
use lib.ListN.{length}
use borrow.Author.Rules.{rules}
use Rattle.tape.specs.Channel.{number_of_channel}
use Rattle.tape.specs.Item.{rcl_item, enm_item, eoc_item, bytes_of}
use Rattle.tape.specs.Tape.{rows_tape_of, tape_of}
use Rattle.items.proofs.LawsOfLaid.{laid_then, room_front, room_rest}
use Rattle.writer.proofs.Laws.{tape_parts}
use Rattle.writer.proofs.put_tape.Goals as goal

-- the text of each of the four calls
module _ (channel : ℕ) (memory : List ℕ) where
  abbrev rcl_bytes : List ℕ
  rcl_bytes = bytes_of channel rcl_item

  abbrev enm_bytes : List ℕ
  enm_bytes = bytes_of channel enm_item

  abbrev rows_bytes : List ℕ
  rows_bytes = rows_tape_of channel memory 15

  abbrev eoc_bytes : List ℕ
  eoc_bytes = bytes_of channel eoc_item

  -- there is room for all, for the three before EOC, and for the two before the rows
  module _ (out : List ℕ) (room : length (tape_of memory channel) ≤ length out) where
    all : length (((rcl_bytes ++ enm_bytes) ++ rows_bytes) ++ eoc_bytes) ≤ length out
    all = rw (tape_parts channel memory) room

    three : length ((rcl_bytes ++ enm_bytes) ++ rows_bytes) ≤ length out
    three = room_front out ((rcl_bytes ++ enm_bytes) ++ rows_bytes) eoc_bytes all

    two : length (rcl_bytes ++ enm_bytes) ≤ length out
    two = room_front out (rcl_bytes ++ enm_bytes) rows_bytes three

pub put_item-n-requires : goal.put_item-n-requires
put_item-n-requires c =
    let a = c.args in
    room_front a.out.now _ _ (two (number_of_channel a.channel) a.memory.now a.out.now c.requires)

pub put_item-n-requires-2 : goal.put_item-n-requires-2
put_item-n-requires-2 c =
    let a = c.args in
    room_rest a.out.now _ _ (two (number_of_channel a.channel) a.memory.now a.out.now c.requires) c.put_item-n.ensures

pub put_rows-n-requires : goal.put_rows-n-requires
put_rows-n-requires c =
    let a = c.args in
    let emptied = laid_then a.out.now _ _ (two (number_of_channel a.channel) a.memory.now a.out.now c.requires) c.put_item-n.ensures c.put_item-n-2.ensures in
    room_rest a.out.now _ _ (three (number_of_channel a.channel) a.memory.now a.out.now c.requires) emptied

pub put_item-requires : goal.put_item-requires
put_item-requires c =
    let a = c.args in
    let emptied = laid_then a.out.now _ _ (two (number_of_channel a.channel) a.memory.now a.out.now c.requires) c.put_item-n.ensures c.put_item-n-2.ensures in
    let loaded = laid_then a.out.now _ _ (three (number_of_channel a.channel) a.memory.now a.out.now c.requires) emptied c.put_rows-n.ensures in
    room_rest a.out.now _ _ (all (number_of_channel a.channel) a.memory.now a.out.now c.requires) loaded

pub returns : goal.returns
returns c =
    let a = c.args in
    let emptied = laid_then a.out.now _ _ (two (number_of_channel a.channel) a.memory.now a.out.now c.requires) c.put_item-n.ensures c.put_item-n-2.ensures in
    let loaded = laid_then a.out.now _ _ (three (number_of_channel a.channel) a.memory.now a.out.now c.requires) emptied c.put_rows-n.ensures in
    rw (sym (tape_parts (number_of_channel a.channel) a.memory.now)) (laid_then a.out.now _ _ (all (number_of_channel a.channel) a.memory.now a.out.now c.requires) loaded c.put_item.ensures)
