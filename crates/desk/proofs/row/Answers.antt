-- `row` meets its contract: in a valid record the byte of a row is its count. Assumes nothing.
use mathlib.Core.Path.{ap, refl, sym, ◌∙◌}
use Prim.Native.Nat.{ℕ}
use Rattle.std.proofs.lemmas.Result.{err_from_is_err_and}
use Rattle.cell.specs.Place.{row_number}
use Rattle.valid.proofs.LawsOfRanges.{contains_within, within_low, within_high}
use Rattle.valid.proofs.Laws.{is_valid-length, is_valid_count}
use Rattle.standing.specs.Calls.{gives}
use Rattle.desk.specs.Looks.{look_of, row_of}
use Rattle.desk.proofs.LawsOfFound.{found, refused_first}
use Rattle.desk.proofs.row.Goals as goal

pub returns-in_err-ready : goal.returns-in_err-ready
unfolding row_of look_of
returns-in_err-ready c =
    let p = err_from_is_err_and c.from_residual.result c.from_residual.ensures.1 in
    rw (p.1, p.2) (refused_first (λ (n : ℕ). gives n 0) _ _ refl c.in_err-ready.ensures)

pub returns-then-not-contains : goal.returns-then-not-contains
unfolding row_of look_of
returns-then-not-contains c =
    let f = found refl c.in_ok-ready.ensures in
    let n = c.new.ensures in
    let told = contains_within c.new.result 1 15 c.args.number n.start n.end n.exhausted c.contains.ensures.value in
    rw (f.fits, f.valid, sym told ∙ c.if-not-contains.true)

pub read_count-requires : goal.read_count-requires
read_count-requires c =
    let f = found refl c.in_ok-ready.ensures in
    let n = c.new.ensures in
    let told = contains_within c.new.result 1 15 c.args.number n.start n.end n.exhausted c.contains.ensures.value in
    (is_valid-length _ f.valid, within_high 1 15 c.args.number (sym told ∙ c.if-not-contains.false))

pub returns : goal.returns
unfolding row_of look_of
returns c =
    let a = c.args in
    let f = found refl c.in_ok-ready.ensures in
    let n = c.new.ensures in
    let told = contains_within c.new.result 1 15 a.number n.start n.end n.exhausted c.contains.ensures.value in
    let is = sym told ∙ c.if-not-contains.false in
    rw (f.fits, f.valid, is)
    (ap (gives 0) (c.read_count.ensures ∙ is_valid_count a.desk.now (row_number a.number) f.valid (within_low 1 15 a.number is) (within_high 1 15 a.number is)))
