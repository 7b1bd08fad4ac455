-- `is_start` meets its contract. Assumes nothing.
use mathlib.Core.List.{List}
use mathlib.Core.Path.{ap, sym, ◌∙◌}
use Prim.Native.Nat.{ℕ}
use Rattle.standing.proofs.Within.{start_fresh, is_start_of, is_start_fresh}
use Rattle.standing.specs.Calls.{is_start}
use Rattle.state.specs.declared.State.{State}
use Rattle.replay.specs.Captions.{caption_decoder}
use Rattle.replay.proofs.Laws.{caption_decoder_lawful}
use Rattle.slots.proofs.is_start.Goals as goal

pub returns-then-s-eq0 : goal.returns-then-s-eq0
returns-then-s-eq0 c =
    let a = c.args in
    let e = c.if-s-eq0.true in
    sym (is_start_fresh caption_decoder caption_decoder_lawful) ∙ (λ i. is_start caption_decoder (start_fresh caption_decoder a.tray.now a.s e i) (sym e i))

pub returns : goal.returns
returns c =
    let a = c.args in
    is_start_of caption_decoder _ a.s c.is_valid.ensures (ap (λ (s : State). s.acts) c.read_state-start.ensures)
    ∙ ap (λ (r : List ℕ). is_start caption_decoder r a.s) c.slot-kept.ensures.0
