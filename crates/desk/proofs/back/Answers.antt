-- `back` meets its contract. Assumes nothing.
use mathlib.Core.Path.{ap, sym, ◌∙◌}
use native.Mathlib.Omega.{arith}
use Prim.Native.Nat.{ℕ, ◌-◌, ◌*◌, ◌/◌}
use lib.ListN.{replicate}
use Rattle.std.proofs.lemmas.Result.{err_from_is_err_and}
use Rattle.facts.specs.Over.{over}
use Rattle.state.specs.declared.State.{State}
use Rattle.standing.specs.Calls.{three}
use Rattle.standing.proofs.Ways.{back_beyond, back_broken, back_done}
use Rattle.replay.specs.Captions.{caption_decoder}
use Rattle.desk.proofs.LawsOfFound.{found, back_refused, lent_sized}
use Rattle.desk.proofs.back.Goals as goal

pub returns-in_err-state : goal.returns-in_err-state
returns-in_err-state c =
    let a = c.args in
    let p = err_from_is_err_and c.from_residual.result c.from_residual.ensures.1 in
    rw (p.1, p.2) (back_refused (three a.desk.now a.log.now a.tray.now) c.is_sized.ensures c.in_err-state.ensures a.k)

pub returns-then-k-acts : goal.returns-then-k-acts
returns-then-k-acts c =
    let a = c.args in
    let f = found c.is_sized.ensures c.in_ok-state.ensures in
    back_beyond caption_decoder (three a.desk.now a.log.now a.tray.now) f.fits f.valid c.in_ok-state.state.acts (ap (λ (s : State). s.acts) f.read) a.k c.if-k-acts.true

pub is_replayable-requires : goal.is_replayable-requires
is_replayable-requires c =
    let a = c.args in
    let f = found c.is_sized.ensures c.in_ok-state.ensures in
    let z = lent_sized a.desk.now a.log.now a.tray.now f.fits in
    (omega (arith, f.high), z.log_size, z.tray_size)

pub returns-then-not-is_replayable : goal.returns-then-not-is_replayable
returns-then-not-is_replayable c =
    let a = c.args in
    let f = found c.is_sized.ensures c.in_ok-state.ensures in
    back_broken caption_decoder (three a.desk.now a.log.now a.tray.now) f.fits f.valid c.in_ok-state.state.acts (ap (λ (s : State). s.acts) f.read) a.k c.if-k-acts.false
    (sym c.is_replayable.ensures ∙ c.if-not-is_replayable.true)

pub restore-requires : goal.restore-requires
restore-requires c =
    let a = c.args in
    let f = found c.is_sized.ensures c.in_ok-state.ensures in
    let z = lent_sized a.desk.now a.log.now a.tray.now f.fits in
    (z.desk-size, omega (arith, f.high), z.log_size, z.tray_size, sym c.is_replayable.ensures ∙ c.if-not-is_replayable.false)

pub overflow_sub-m : goal.overflow_sub-m
overflow_sub-m c =
    let f = found c.is_sized.ensures c.in_ok-state.ensures in
    omega (arith, f.high)

pub wipe-requires : goal.wipe-requires
wipe-requires c =
    let a = c.args in
    let f = found c.is_sized.ensures c.in_ok-state.ensures in
    let z = lent_sized a.desk.now a.log.now a.tray.now f.fits in
    omega (arith, f.high, z.log_size)

pub overflow_sub-kept : goal.overflow_sub-kept
overflow_sub-kept c =
    let f = found c.is_sized.ensures c.in_ok-state.ensures in
    omega (arith, f.high)

pub wipe-requires-2 : goal.wipe-requires-2
wipe-requires-2 c =
    let a = c.args in
    let f = found c.is_sized.ensures c.in_ok-state.ensures in
    let z = lent_sized a.desk.now a.log.now a.tray.now f.fits in
    omega (arith, f.high, z.tray_size)

pub returns : goal.returns
returns c =
    let a = c.args in
    let lent = three a.desk.now a.log.now a.tray.now in
    let f = found c.is_sized.ensures c.in_ok-state.ensures in
    let z = lent_sized a.desk.now a.log.now a.tray.now f.fits in
    let acts = c.in_ok-state.state.acts in
    let m = acts - a.k in
    back_done caption_decoder lent f.fits f.valid acts (ap (λ (s : State). s.acts) f.read) a.k c.if-k-acts.false (sym c.is_replayable.ensures ∙ c.if-not-is_replayable.false) c.restore.ensures
    (c.wipe.ensures ∙ ap (λ (n : ℕ). over lent.log (m * 3) (replicate (n - m * 3) 0)) (sym z.log_size))
    (c.wipe-2.ensures ∙ ap (λ (n : ℕ). over lent.tray (m / 1000 * 1984) (replicate (n - m / 1000 * 1984) 0)) (sym z.tray_size))
