-- `is_valid` meets its contract: 1,984 bytes are tested as `check_of` says, and all others are refused. Assumes nothing.
use mathlib.Core.Path.{refl, sym, ◌∙◌}
use borrow.Author.Rules.{rules}
use Rattle.valid.proofs.Clauses.{is_valid_state_ranged, is_valid_state_fits}
use Rattle.valid.proofs.Rows.{check_joined, is_valid_other}
use Rattle.valid.proofs.is_valid.Goals as goal

pub is_framed-requires : goal.is_framed-requires
is_framed-requires c =
    let s = c.read_state-state.result in
    let valid = sym c.is_valid_state.ensures ∙ c.if-not-is_valid_state.false in
    (search rules, (is_valid_state_ranged s valid).roll.place.row_high, is_valid_state_fits s valid)

pub returns : goal.returns
returns c =
    check_joined c.args.bytes.now c.if-bytes-ne1984.false c.read_state-state.ensures
    (sym c.if-not-is_valid_state.false ∙ c.is_valid_state.ensures) c.is_blank.ensures c.are_rows.ensures c.is_framed.ensures

pub returns-then-not-is_valid_state : goal.returns-then-not-is_valid_state
returns-then-not-is_valid_state c =
    check_joined c.args.bytes.now c.if-bytes-ne1984.false c.read_state-state.ensures
    (sym c.if-not-is_valid_state.true ∙ c.is_valid_state.ensures) refl refl refl

pub returns-then-bytes-ne1984 : goal.returns-then-bytes-ne1984
returns-then-bytes-ne1984 c = is_valid_other c.args.bytes.now c.if-bytes-ne1984.true
