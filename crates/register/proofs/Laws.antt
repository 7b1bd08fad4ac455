-- The loop that prints: what has gone out and what is still to come are the register, piece after piece. Assumes nothing.
use mathlib.Core.Path.{◌≡◌, refl, ap, sym, subst}
use mathlib.Core.Bool.{true, false}
use mathlib.Core.List.{List}
use Prim.Native.Nat.{ℕ, ◌+◌, ◌*◌, ◌<◌, ◌≤◌}
use native.Mathlib.Omega.{arith}
use lib.ListN.{length, take}
use lib.Seq.{length-take-le}
use Rattle.runs.specs.Register.{register_of}
use Rattle.walk.specs.Stage.{is_live}
use Rattle.walk.specs.Walk.{Place, start_of, Fit, steps_of}
use Rattle.pieces.specs.Pieces.{buffer, handed, next_piece_of}
use Rattle.walk.proofs.Laws.{rest_of, rest_start, rest_none}
use Rattle.walk.proofs.LawsOfSteps.{start_fit}
use Rattle.pieces.proofs.Laws.{handed_rest, handed_fit, handed_on}

-- n bytes have gone out, and the walk stands at p
pub record Printing (reel : List ℕ) (p : Place) (n : ℕ) : Type 0 where
  pub fit : Fit p
  pub small : n + steps_of p.walk * buffer ≤ 16002 * buffer
  pub all : n + length (rest_of p reel) ≡ length (register_of reel)

pub printing_start : (reel : List ℕ) {p : Place} → p ≡ start_of → Printing reel p 0
unfolding start_of
printing_start reel {p} e =
    record {
      fit = subst Fit (sym e) start_fit;
      small = omega (arith, ap (λ (q : Place). steps_of q.walk) e);
      all = omega (arith, ap (λ (q : Place). length (rest_of q reel)) e, ap length (rest_start reel));
    }

module _ (reel out : List ℕ) {p q : Place} {n m : ℕ} {left : List ℕ} (g : Printing reel p n) (live : is_live p.walk.stage ≡ true) (h : handed q m left ≡ next_piece_of p reel out) where
  pub printing_less : steps_of q.walk < steps_of p.walk
  printing_less = handed_on p reel out g.fit h live

  -- the piece is the first m bytes of the buffer
  pub printing_more : (m ≤ buffer) × (length left ≡ buffer) → {sent : ℕ} → sent ≡ length (take m left) → Printing reel q (n + sent)
  printing_more fits e =
      let small = g.small in
      let less = printing_less in
      let count = length-take-le m left (omega (arith, fits.0, fits.1)) in
      record {
        fit = handed_fit p reel out g.fit h;
        small = omega (arith, fits.0, e);
        all = omega (arith, e, g.all, handed_rest p reel out g.fit h);
      }

  -- the same by the sum that is handed on
  pub printing_on : (m ≤ buffer) × (length left ≡ buffer) → {sum : ℕ} → sum ≡ n + length (take m left) → Printing reel q sum
  printing_on fits e = subst (Printing reel q) (sym e) (printing_more fits refl)

pub printing_end : (reel : List ℕ) {p : Place} {n : ℕ} → Printing reel p n → is_live p.walk.stage ≡ false → n ≡ length (register_of reel)
printing_end reel {p} g done = omega (arith, g.all, ap length (rest_none p reel done))
