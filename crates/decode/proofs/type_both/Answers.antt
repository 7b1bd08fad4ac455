-- `type_both` meets its contract. Assumes nothing.
use mathlib.Core.Path.{ap, sym, ◌∙◌}
use Rattle.state.specs.State.{Captions, desk}
use Rattle.decode.specs.Pair.{with_mode}
use Rattle.decode.proofs.Laws.{is_open_live, open_both, shut_both}
use Rattle.decode.proofs.type_both.Goals as goal

pub write_two-mode-requires : goal.write_two-mode-requires
write_two-mode-requires c =
    (c.requires, is_open_live c.args.state (sym c.is_open.ensures ∙ c.if-is_open.true))

pub returns-then-is_open : goal.returns-then-is_open
returns-then-is_open c =
    let a = c.args in
    ap (λ (d : Captions). desk (with_mode a.state d.mode) d.cells) c.write_two-mode.ensures
    ∙ open_both (desk a.state a.cells.now) a.first a.second (sym c.is_open.ensures ∙ c.if-is_open.true)

pub returns : goal.returns
returns c =
    let a = c.args in
    shut_both (desk a.state a.cells.now) a.first a.second (sym c.is_open.ensures ∙ c.if-is_open.false)
