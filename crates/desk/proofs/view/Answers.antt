-- `view` meets its contract. Assumes nothing.
use mathlib.Core.Path.{sym, ◌∙◌}
use native.Mathlib.Omega.{arith}
use Rattle.valid.proofs.Laws.{is_valid-length}
use Rattle.desk.specs.Looks.{view_of}
use Rattle.desk.proofs.view.Goals as goal

pub returns-then-not-is_valid : goal.returns-then-not-is_valid
unfolding view_of
returns-then-not-is_valid c = rw (sym c.is_valid.ensures ∙ c.if-not-is_valid.true)

pub slice_bounds-result-end-2 : goal.slice_bounds-result-end-2
slice_bounds-result-end-2 c = omega (arith, is_valid-length _ (sym c.is_valid.ensures ∙ c.if-not-is_valid.false))

pub returns : goal.returns
unfolding view_of
returns c = rw (sym c.is_valid.ensures ∙ c.if-not-is_valid.false)
