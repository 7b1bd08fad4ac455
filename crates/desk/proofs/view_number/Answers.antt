-- `view_number` meets its contract. Assumes nothing.
use mathlib.Core.Path.{refl}
use Prim.Native.Nat.{ℕ}
use Rattle.std.proofs.lemmas.Result.{err_from_is_err_and}
use Rattle.standing.specs.Calls.{gives}
use Rattle.desk.specs.Looks.{look_of, view_number_of}
use Rattle.desk.proofs.LawsOfFound.{found, refused_first}
use Rattle.desk.proofs.view_number.Goals as goal

pub returns-in_err-ready : goal.returns-in_err-ready
unfolding view_number_of look_of
returns-in_err-ready c =
    let p = err_from_is_err_and c.from_residual.result c.from_residual.ensures.1 in
    rw (p.1, p.2) (refused_first (λ (n : ℕ). gives n 0) _ _ refl c.in_err-ready.ensures)

pub returns : goal.returns
unfolding view_number_of look_of
returns c = let f = found refl c.in_ok-ready.ensures in rw (f.fits, f.valid)
