-- The laws of a reader's walk: from the first line it gives the pairs in order and then the end, as often as asked; on a bad line it stays. Assumes nothing.
use mathlib.Core.Path.{◌≡◌, refl, ap, sym, ◌∙◌}
use mathlib.Core.List.{List, [], ◌∷◌, ◌++◌, append_assoc, append-nil}
use Prim.Native.Nat.{ℕ, zero, suc, ◌+◌}
use native.Mathlib.Nat.{suc-add, zero-add}
use native.Mathlib.Omega.{arith}
use lib.ListN.{length, take, replicate, length-append}
use lib.Seq.{take_at, drop_at}
use Rattle.wire.specs.declared.Line.{Line}
use Rattle.wire.specs.declared.Line.TheVariants.{Pair, End, Bad}
use Rattle.wire.specs.Line.{line_at, line_of}
use Rattle.wire.proofs.Laws.{length_line_of, line_at_part, line_at_end}
use Rattle.reel.specs.Walk.{past, after_of, walk_of, reel_of, Bytes, in_order}

-- where it goes, by what stands there
pub after_of_at : (reel : List ℕ) (at : ℕ) {l : Line} → line_at reel at ≡ l → after_of reel at ≡ past l at
unfolding after_of
after_of_at reel at e = ap (λ (l : Line). past l at) e

-- "on 5 it stays", and so it does at the end: the same answer as often as asked
stays : (reel : List ℕ) (at n : ℕ) (l : Line) → line_at reel at ≡ l → past l at ≡ at → walk_of reel at n ≡ replicate n l
unfolding walk_of
stays reel at zero l e s = refl
stays reel at (suc n) l e s = (λ i. e i ∷ walk_of reel ((after_of_at reel at e ∙ s) i) n) ∙ ap (λ (ls : List Line). l ∷ ls) (stays reel at n l e s)

pub walk_of_bad : (reel : List ℕ) (at n : ℕ) → line_at reel at ≡ Bad → walk_of reel at n ≡ replicate n Bad
walk_of_bad reel at n e = stays reel at n Bad e refl

pub walk_of_end : (reel : List ℕ) (at n : ℕ) → line_at reel at ≡ End → walk_of reel at n ≡ replicate n End
walk_of_end reel at n e = stays reel at n End e refl

-- the line of a pair behind some bytes
line_at_behind : (front rest : List ℕ) (p : ℕ × ℕ) → Bytes (p ∷ []) → line_at (front ++ (line_of p.0 p.1 ++ rest)) (length front) ≡ Pair p.0 p.1
line_at_behind front rest p b =
    line_at_part (front ++ (line_of p.0 p.1 ++ rest)) (length front) p.0 p.1 b.0 b.1
    (ap (take 5) (drop_at front (line_of p.0 p.1 ++ rest) (length front) refl)
    ∙ take_at (line_of p.0 p.1) rest 5 (length_line_of p.0 p.1))

walk_behind : (front : List ℕ) (ps : List (ℕ × ℕ)) (n : ℕ) → Bytes ps → walk_of (front ++ reel_of ps) (length front) (length ps + n) ≡ in_order ps n
unfolding reel_of walk_of
walk_behind front [] n b =
    let e : length (front ++ []) ≡ length front = ap length (append-nil front) in
    rw zero-add (walk_of_end (front ++ []) (length front) n (line_at_end (front ++ []) (length front) (omega arith)))
walk_behind front (p ∷ ps) n b =
    let line = line_of p.0 p.1 in
    let whole = front ++ (line ++ reel_of ps) in
    let e = line_at_behind front (reel_of ps) p (b.0, b.1, tt) in
    let on : after_of whole (length front) ≡ length (front ++ line) = after_of_at whole (length front) e ∙ sym (length-append front line ∙ ap (λ (k : ℕ). length front + k) (length_line_of p.0 p.1)) in
    ap (walk_of whole (length front)) (suc-add (length ps) n)
    ∙ (λ i. e i ∷ walk_of (sym (append_assoc front line (reel_of ps)) i) (on i) (length ps + n))
    ∙ ap (λ (ls : List Line). Pair p.0 p.1 ∷ ls) (walk_behind (front ++ line) ps n b.2)

-- "walks a lent reel from its first line": the pairs in order, then "0 and no pair"
pub walk_of_reel_of : (ps : List (ℕ × ℕ)) (n : ℕ) → Bytes ps → walk_of (reel_of ps) 0 (length ps + n) ≡ in_order ps n
walk_of_reel_of ps n b = walk_behind [] ps n b
