-- `give` meets its contract. Assumes nothing.
use mathlib.Core.Path.{ap, sym, subst, ◌∙◌}
use Prim.Native.Nat.{◌<◌}
use Rattle.std.proofs.lemmas.Result.{err_from_is_err_and}
use Rattle.state.specs.declared.State.{State}
use Rattle.standing.specs.Acts.{act_of}
use Rattle.standing.specs.Calls.{three}
use Rattle.standing.proofs.Ways.{give_no_channel, give_full}
use Rattle.replay.specs.Captions.{caption_decoder}
use Rattle.desk.proofs.Laws.{given_call, allowed_of_formed}
use Rattle.desk.proofs.LawsOfFound.{found, give_refused, lent_sized}
use Rattle.desk.proofs.give.Goals as goal

pub returns-in_err-state : goal.returns-in_err-state
returns-in_err-state c =
    let a = c.args in
    let p = err_from_is_err_and c.from_residual.result c.from_residual.ensures.1 in
    rw (p.1, p.2) (give_refused (three a.desk.now a.log.now a.tray.now) c.is_sized.ensures c.in_err-state.ensures (act_of a.act.kind a.act.first a.act.second))

pub returns-then-not-is_formed : goal.returns-then-not-is_formed
returns-then-not-is_formed c =
    let a = c.args in
    let f = found c.is_sized.ensures c.in_ok-state.ensures in
    give_no_channel caption_decoder (three a.desk.now a.log.now a.tray.now) f.fits (act_of a.act.kind a.act.first a.act.second) f.valid
    (allowed_of_formed a.act.kind a.act.first a.act.second c.requires c.is_formed.ensures ∙ c.if-not-is_formed.true)

pub returns-then-state-ge16000 : goal.returns-then-state-ge16000
returns-then-state-ge16000 c =
    let a = c.args in
    let f = found c.is_sized.ensures c.in_ok-state.ensures in
    give_full caption_decoder (three a.desk.now a.log.now a.tray.now) f.fits f.valid c.in_ok-state.state.acts (ap (λ (x : State). x.acts) f.read)
    (act_of a.act.kind a.act.first a.act.second) (allowed_of_formed a.act.kind a.act.first a.act.second c.requires c.is_formed.ensures ∙ c.if-not-is_formed.false) c.if-state-ge16000.true

pub give-requires : goal.give-requires
give-requires c =
    let a = c.args in
    let f = found c.is_sized.ensures c.in_ok-state.ensures in
    let z = lent_sized a.desk.now a.log.now a.tray.now f.fits in (
      record { log_size = z.log_size; tray_size = z.tray_size; valid = f.valid; room = subst (λ (s : State). s.acts < 16000) f.read c.if-state-ge16000.false },
      f.read,
      sym c.is_formed.ensures ∙ c.if-not-is_formed.false,
    )

pub returns : goal.returns
returns c =
    let a = c.args in
    let f = found c.is_sized.ensures c.in_ok-state.ensures in
    given_call a.desk.now a.log.now a.tray.now a.act.kind a.act.first a.act.second c.requires f.fits f.valid
    (subst (λ (s : State). s.acts < 16000) f.read c.if-state-ge16000.false)
    (allowed_of_formed a.act.kind a.act.first a.act.second c.requires c.is_formed.ensures ∙ c.if-not-is_formed.false) c.give.result _ _ _ c.give.ensures
