-- `replay_in_place` meets its contract. Assumes nothing.
use mathlib.Core.Path.{ap, sym, subst, ◌∙◌}
use native.Mathlib.Omega.{arith}
use borrow.Rule.Slice.PartMut.{mid_len}
use Rattle.standing.specs.Calls.{replay_of}
use Rattle.decode.specs.Sound.{SoundDesk}
use Rattle.state.specs.State.{Desk, desk}
use Rattle.record.proofs.Laws.{lent_cells}
use Rattle.valid.proofs.Laws.{is_valid-length, is_valid_sound}
use Rattle.replay.specs.Captions.{caption_decoder}
use Rattle.tray.proofs.Laws.{record_of_in_place}
use Rattle.tray.proofs.replay_in_place.Goals as goal

pub slice_bounds-replay-end : goal.slice_bounds-replay-end
slice_bounds-replay-end c =
    omega (arith, is_valid-length c.args.desk.now c.requires.0)

pub replay-end-requires : goal.replay-end-requires
replay-end-requires c =
    let bs = c.args.desk.now in
    let size = is_valid-length bs c.requires.0 in
    (subst SoundDesk (λ i. desk (sym c.requires.1 i) (sym (lent_cells bs size) i)) (is_valid_sound bs c.requires.0), c.requires.2, c.requires.3, c.requires.4, c.requires.5)

pub write_head-requires : goal.write_head-requires
write_head-requires c =
    omega (arith, is_valid-length c.args.desk.now c.requires.0)

pub returns : goal.returns
returns c =
    let a = c.args in
    let bs = a.desk.now in
    let size = is_valid-length bs c.requires.0 in
    let m = mid_len 64 1984 bs (omega arith) in
    let e = c.replay-end.ensures ∙ (λ i. replay_of caption_decoder (desk (c.requires.1 i) (lent_cells bs size i)) a.log.now a.from a.count) in
    (record_of_in_place bs c.replay-end.new.cells c.write_head.new.bytes c.replay-end.result size (omega arith) c.write_head.ensures e, ap (λ (d : Desk). d.state) e)
