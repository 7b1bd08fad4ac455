-- `restore` meets its contract. Assumes nothing.
use mathlib.Core.List.{List}
use mathlib.Core.Path.{◌≡◌, ap, refl, ◌∙◌}
use Prim.Native.Nat.{ℕ, ◌-◌, ◌*◌, ◌/◌}
use native.Mathlib.Omega.{arith}
use Rattle.standing.proofs.Within.{is_replayable_start, is_replayable_formed, is_start_count, is_start_valid, restored_of_lem}
use Rattle.standing.specs.Calls.{start_of, replay_of}
use Rattle.state.specs.declared.State.{State}
use Rattle.valid.specs.Valid.{is_valid}
use Rattle.record.specs.Layout.{read_of, record_of}
use Rattle.replay.specs.Captions.{count_of, caption_decoder}
use Rattle.tray.proofs.restore.Goals as goal

pub replay_in_place-requires : goal.replay_in_place-requires
replay_in_place-requires c =
    let a = c.args in
    let k = a.m / 1000 in
    let e = c.write_start.ensures in
    let read = c.read_state-start in
    let ok = is_replayable_start caption_decoder a.log.now a.tray.now a.m k refl c.requires.4 in
    let r = start_of caption_decoder a.tray.now k in
    let acts : read.result.acts ≡ k * 1000 =
    ap (λ (x : State). x.acts) read.ensures ∙ ap (λ (x : List ℕ). count_of (read_of x)) e ∙ is_start_count caption_decoder r k ok in
    (ap is_valid e ∙ is_start_valid caption_decoder r k ok, read.ensures, omega (arith, acts), omega arith, omega arith, is_replayable_formed caption_decoder a.log.now a.tray.now a.m k refl c.requires.4)

pub returns : goal.returns
returns c =
    let a = c.args in
    let k = a.m / 1000 in
    c.replay_in_place.ensures.0 ∙ ap (λ (r : List ℕ). record_of (replay_of caption_decoder (read_of r) a.log.now (k * 1000) (a.m - k * 1000))) c.write_start.ensures
    ∙ ap record_of (restored_of_lem caption_decoder a.log.now a.tray.now a.m k refl refl)
