-- `control` meets its contract. Assumes nothing.
use mathlib.Core.Path.{sym, subst}
use borrow.Author.Tests.{eq-eqb, ne_eqb}
use Rattle.state.specs.State.{desk, state}
use Rattle.codes.proofs.Laws.{code_of_proper}
use Rattle.codes.specs.Proper.{Proper}
use Rattle.decode.specs.Pair.{control_of}
use Rattle.decode.proofs.control.Goals as goal

pub act-mode-requires : goal.act-mode-requires
act-mode-requires c =
    let a = c.args in
    let p = c.requires in
    (p.0, subst Proper (sym p.5) (code_of_proper a.a a.b p.1 p.2 p.3 p.4))

pub returns-then-channel-state : goal.returns-then-channel-state
unfolding control_of
returns-then-channel-state c =
    let a = c.args in
    let t = a.state in
    let channel = c.channel-channel.ensures.0 in
    let same = rw channel at (eq-eqb _ _ c.if-channel-state.true) in
    let acted = rw c.requires.5 at c.act-mode.ensures in
    rw same (λ i. desk (state t.acts t.selected (channel i) a.a a.b (acted i).mode) (acted i).cells)

pub returns : goal.returns
unfolding control_of
returns c =
    let channel = c.channel-channel.ensures.0 in
    let other = rw channel at (ne_eqb _ _ c.if-channel-state.false) in
    rw (other, channel)
