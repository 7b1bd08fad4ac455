-- The whole script, from what its steps came to. Assumes nothing.
use mathlib.Core.Path.{◌≡◌, refl, sym, ap}
use mathlib.Core.List.{List}
use Prim.Native.Nat.{ℕ, ◌*◌, ◌/◌, ◌%◌}
use native.Mathlib.Omega.{arith}
use lib.ListN.{length, replicate}
use borrow.Author.Tests.{eq-eqb, ne_eqb}
use Rattle.std.specs.Prelude.{Option}
use Rattle.facts.proofs.Over.{over_nil}
use Rattle.wire.specs.Reel.{reel_of_raw}
use Rattle.wire.proofs.LawsOfReel.{length-reel_of_raw}
use Rattle.tape.specs.Programme.{programme_of}
use Rattle.steps.specs.declared.Hand.{Hand}
use Rattle.steps.specs.declared.Wrong.{Wrong}
use Rattle.steps.specs.Wrong.{number_of_wrong, earliest_of}
use Rattle.steps.specs.Take.{blank}
use Rattle.script.specs.Script.{reached_of, show_last_of, made_of, script_reel_of}
use Rattle.script.specs.Make.{outcome, make_of}
use Rattle.steps.specs.Hand.{Goes}

pub blank_is : replicate 960 0 ≡ blank
unfolding blank
blank_is = refl

module _ (script out : List ℕ) where
  pub make_done : {kept : ℕ} {h : Hand} {wrong : Option Wrong} {screen left : List ℕ} → length out ≡ 80000 → length script % 40 ≡ 0 → kept ≡ (reached_of script (length script / 40)).kept
      → Goes (show_last_of (reached_of script (length script / 40)).last) h wrong screen out left → outcome (number_of_wrong wrong) kept (earliest_of wrong) (h.frames * 5) left ≡ make_of script out
  unfolding make_of made_of script_reel_of
  make_done {kept} {h} room whole k g =
      let w = show_last_of (reached_of script (length script / 40)).last in
      let count = length-reel_of_raw (programme_of w.to.cues) in
      let frames = g.stands.frames in
      let n : h.frames * 5 ≡ length (reel_of_raw (programme_of w.to.cues)) = omega arith in
      rw (eq-eqb (length out) 80000 room, eq-eqb (length script % 40) 0 whole)
      (λ i. outcome (g.same i).wrong (k i) (g.same i).earliest (n i) (g.stands.lines i))

  pub make_roomless : (length out ≡ 80000 → ⊥) → outcome 1 0 0 0 out ≡ make_of script out
  unfolding make_of
  make_roomless some = rw (ne_eqb (length out) 80000 some)

  pub make_broken : length out ≡ 80000 → (length script % 40 ≡ 0 → ⊥) → outcome 1 0 0 0 out ≡ make_of script out
  unfolding make_of made_of script_reel_of
  make_broken room some = rw (eq-eqb (length out) 80000 room, ne_eqb (length script % 40) 0 some) (ap (outcome 1 0 0 0) (sym (over_nil out 0)))
