-- What the input owes: "Bytes after 16,000 lines give `refused 16001 3`": 80,001 bytes of the input settle the register, so the program reads no more. Assumes nothing.
use mathlib.Core.Path.{◌≡◌, refl, ap, ◌∙◌}
use mathlib.Core.Bool.{Bool}
use mathlib.Core.List.{List, [], ◌∷◌, ◌++◌}
use Prim.Native.Nat.{ℕ, zero, suc, ◌+◌, ◌*◌, ◌<◌, ◌≤◌}
use native.Mathlib.Omega.{arith}
use lib.Dec.{leb, eqb}
use lib.ListN.{length, take, length-take}
use lib.Seq.{take-take}
use borrow.Author.Tests.{leb-true, le-leb}
use Rattle.facts.specs.Choice.{pick}
use Rattle.facts.specs.Over.{part}
use Rattle.facts.proofs.Choice.{same_test}
use Rattle.wire.specs.declared.Line.{Line}
use Rattle.wire.specs.declared.Line.TheVariants.{Pair, End, Bad}
use Rattle.wire.specs.Line.{judge_of, line_at}
use Rattle.state.specs.State.{Desk}
use Rattle.decode.specs.Pair.{pair_of}
use Rattle.decode.specs.Step.{fresh_desk}
use Rattle.lines.specs.Line.{header, refused_of}
use Rattle.runs.specs.Frames.{screen_of, on_pair, screens_from, most, frames_of}
use Rattle.runs.specs.Runs.{runs_of}
use Rattle.runs.specs.Register.{text_of, refusal_of, register_of}

-- a part inside the front of a list
part-take : (l : List ℕ) (n at k : ℕ) → at + k ≤ n → part (take n l) at k ≡ part l at k
part-take l n zero k h = take-take k n l (omega arith)
part-take l zero (suc at) k h = absurd (omega arith)
part-take [] (suc n) (suc at) k h = refl
part-take (x ∷ l) (suc n) (suc at) k h = part-take l n at k (omega arith)

-- whether a place lies behind a list's end, asked of its front
front_behind : (l : List ℕ) (n at : ℕ) → at < n → leb (length (take n l)) at ≡ leb (length l) at
front_behind l n at h =
    let e = length-take n l in
    same_test (leb (length (take n l)) at) (leb (length l) at) (λ t. le-leb (length l) at (omega (arith, leb-true (length (take n l)) at t)))
    (λ t. le-leb (length (take n l)) at (omega (arith, leb-true (length l) at t)))

line_front : (reel : List ℕ) (n at : ℕ) → at + 5 ≤ n → line_at (take n reel) at ≡ line_at reel at
unfolding line_at
line_front reel n at h = λ i. pick (front_behind reel n at (omega arith) i) End (judge_of (part-take reel n at 5 h i))

on_pair_so : (l : Line) (f g : ℕ → ℕ → List (List ℕ)) → ((first second : ℕ) → f first second ≡ g first second) → on_pair l f ≡ on_pair l g
on_pair_so (Pair first second) f g e = e first second
on_pair_so End f g e = refl
on_pair_so Bad f g e = refl

screens_front : (room : ℕ) (reel : List ℕ) (n frame : ℕ) (d : Desk) → (frame + room) * 5 ≤ n → screens_from room (take n reel) frame d ≡ screens_from room reel frame d
unfolding screens_from
screens_front zero reel n frame d h = refl
screens_front (suc room) reel n frame d h =
    ap (λ (l : Line). on_pair l (λ first second. screen_of (pair_of d first second) ∷ screens_from room (take n reel) (frame + 1) (pair_of d first second)))
    (line_front reel n (frame * 5) (omega arith))
    ∙ on_pair_so (line_at reel (frame * 5)) _ _
    (λ first second. ap (λ (ss : List (List ℕ)). screen_of (pair_of d first second) ∷ ss) (screens_front room reel n (frame + 1) (pair_of d first second) (omega arith)))

-- at most so many frames as there is room for
on_pair-most : (l : Line) (f : ℕ → ℕ → List (List ℕ)) (k : ℕ) → ((first second : ℕ) → length (f first second) ≤ k) → length (on_pair l f) ≤ k
on_pair-most (Pair first second) f k h = h first second
on_pair-most End f k h = omega arith
on_pair-most Bad f k h = omega arith

length-screens_from : (room : ℕ) (reel : List ℕ) (frame : ℕ) (d : Desk) → length (screens_from room reel frame d) ≤ room
unfolding screens_from
length-screens_from zero reel frame d = omega arith
length-screens_from (suc room) reel frame d =
    on_pair-most (line_at reel (frame * 5)) _ (suc room) (λ first second. omega (arith, length-screens_from room reel (frame + 1) (pair_of d first second)))

pub register_of-take : (reel : List ℕ) → register_of (take 80001 reel) ≡ register_of reel
unfolding register_of frames_of refusal_of
register_of-take reel =
    let small = length-screens_from most reel 0 fresh_desk in
    let n = length (frames_of reel) in
    ap (λ (ss : List (List ℕ)). header ++ (text_of (runs_of ss) ++ refusal_of (length (take 80001 reel)) (length ss))) (screens_front most reel 80001 0 fresh_desk (omega arith))
    ∙ ap (λ (t : Bool). header ++ (text_of (runs_of (frames_of reel)) ++ pick t [] (refused_of (n + 1) (pick (eqb n most) 3 5)))) (front_behind reel 80001 (n * 5) (omega arith))
