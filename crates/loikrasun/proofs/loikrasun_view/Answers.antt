-- `loikrasun_view` meets its contract. Assumes nothing.
use mathlib.Core.Path.{ap, ◌∙◌}
use Prim.Native.Nat.{ℕ}
use native.Mathlib.Omega.{arith}
use lib.ListN.{length}
use borrow.Author.Tests.{eq-eqb, ne_eqb}
use Rattle.std.specs.Prelude.{Err}
use Rattle.facts.specs.Over.{over}
use Rattle.desk.specs.declared.Refusal.TheVariants.{WrongLength}
use Rattle.loikrasun.specs.Packed.{packed_of, filled, viewed_of}
use Rattle.loikrasun.proofs.Laws.{desk_packed, length_view_of}
use Rattle.loikrasun.proofs.loikrasun_view.Goals as goal

pub copy-requires : goal.copy-requires
copy-requires c = omega (arith, ap length c.view.ensures, length_view_of c.args.desk.now)

pub returns-then-out-ne960 : goal.returns-then-out-ne960
unfolding viewed_of
returns-then-out-ne960 c =
    let number = desk_packed (Err WrongLength) c.pack_answer.ensures in
    rw (ne_eqb _ _ c.if-out-ne960.true) (ap (λ (n : ℕ). filled n c.args.out.now) number)

pub returns : goal.returns
unfolding viewed_of
returns c =
    let out = c.args.out.now in
    let number = desk_packed c.view_number.result c.pack_answer-2.ensures ∙ ap packed_of c.view_number.ensures in
    let shown = c.copy.ensures ∙ ap (over out 0) c.view.ensures in
    rw (eq-eqb _ _ c.if-out-ne960.false) (λ i. filled (number i) (shown i))
