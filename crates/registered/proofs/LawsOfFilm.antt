-- The frames of a reel made of raw bytes show what the fresh desk's film shows, and the register prints their runs and refuses nothing. Assumes nothing.
use mathlib.Core.Path.{◌≡◌, refl, sym, ap, ◌∙◌}
use mathlib.Core.List.{List, [], ◌∷◌, ◌++◌, append-nil, append_assoc}
use Prim.Native.Nat.{ℕ, zero, suc, ◌+◌, ◌*◌, ◌<◌, ◌≤◌}
use native.Mathlib.Omega.{arith}
use lib.ListN.{length, length-append, take}
use lib.Seq.{drop-append_seam}
use borrow.Author.Tests.{le-leb}
use Rattle.facts.specs.Over.{part}
use Rattle.wire.specs.declared.Line.TheVariants.{Pair, End}
use Rattle.wire.specs.Line.{line_at, line_of}
use Rattle.wire.specs.Reel.{Pairs, pairs_of, reel_of_raw}
use Rattle.wire.proofs.Laws.{line_at_part, line_at_end, length_line_of}
use Rattle.wire.proofs.LawsOfReel.{length-reel_of_raw}
use Rattle.state.specs.State.{Desk}
use Rattle.decode.specs.Pair.{pair_of}
use Rattle.decode.specs.Step.{taken_of, fresh_desk}
use Rattle.decode.specs.Play.{displayed_of, film_of}
use Rattle.decode.proofs.LawsOfActs.{acted_of, pair_of_acted}
use Rattle.lines.specs.Line.{header}
use Rattle.runs.specs.Frames.{screens_from, most, frames_of}
use Rattle.runs.specs.Runs.{stretches_from, empty_screen, seen_of, runs_of}
use Rattle.runs.specs.Register.{text_of, refusal_of, register_of}

-- Behind `before`, the line of a pair, or nothing.

line_behind : (before rest : List ℕ) (at x y : ℕ) → length before ≡ at → x < 256 → y < 256 → line_at (before ++ (line_of x y ++ rest)) at ≡ Pair x y
unfolding line_of
line_behind before rest at x y e p q =
    line_at_part (before ++ (line_of x y ++ rest)) at x y p q
    (ap (λ (k : ℕ). part (before ++ (line_of x y ++ rest)) k 5) (sym e) ∙ ap (take 5) (drop-append_seam before (line_of x y ++ rest)))

nothing_behind : (before : List ℕ) (at : ℕ) → length before ≡ at → line_at (before ++ []) at ≡ End
nothing_behind before at e = line_at_end (before ++ []) at (omega (arith, length-append before []))

frames_end : (room : ℕ) (before : List ℕ) (frame : ℕ) (d : Desk) → length before ≡ frame * 5 → screens_from room (before ++ []) frame d ≡ []
unfolding screens_from
frames_end zero before frame d e = refl
frames_end (suc room) before frame d e = rw (nothing_behind before (frame * 5) e)

-- The film.

screens_film : (s : List ℕ) (room : ℕ) (before : List ℕ) (frame n : ℕ) (d : Desk) → length before ≡ frame * 5 → Pairs s → pairs_of s ≤ room
    → screens_from room (before ++ reel_of_raw s) frame (acted_of n d) ≡ film_of d s
unfolding screens_from taken_of
screens_film [] room before frame n d e b h = frames_end room before frame (acted_of n d) e
screens_film (x ∷ []) room before frame n d e b h = absurd b
screens_film (x ∷ y ∷ more) zero before frame n d e b h = absurd (omega arith)
screens_film (x ∷ y ∷ more) (suc room) before frame n d e b h =
    let next : length (before ++ line_of x y) ≡ (frame + 1) * 5 = omega (arith, length-append before (line_of x y), length_line_of x y) in
    let rest = screens_film more room (before ++ line_of x y) (frame + 1) n (taken_of d x y) next b.2 (omega arith) in
    rw (line_behind before (reel_of_raw more) (frame * 5) x y e b.0 b.1, pair_of_acted n d x y)
    (ap (λ (ss : List (List ℕ)). displayed_of (pair_of d x y).cells ∷ ss)
    (ap (λ (l : List ℕ). screens_from room l (frame + 1) (acted_of n (pair_of d x y))) (sym (append_assoc before (line_of x y) (reel_of_raw more))) ∙ rest))

length-film_of : (d : Desk) (l : List ℕ) → length (film_of d l) ≡ pairs_of l
length-film_of d [] = refl
length-film_of d (x ∷ []) = refl
length-film_of d (x ∷ y ∷ more) = ap suc (length-film_of (taken_of d x y) more)

module _ (s : List ℕ) (whole : Pairs s) (room : pairs_of s ≤ most) where
  frames_of_film : frames_of (reel_of_raw s) ≡ film_of fresh_desk s
  unfolding frames_of
  frames_of_film = screens_film s most [] 0 fresh_desk.state.acts fresh_desk refl whole room

  pub runs_of_film : runs_of (frames_of (reel_of_raw s)) ≡ seen_of (stretches_from 0 0 empty_screen (film_of fresh_desk s))
  unfolding runs_of
  runs_of_film = ap (λ (ss : List (List ℕ)). seen_of (stretches_from 0 0 empty_screen ss)) frames_of_film

  -- nothing is refused
  pub register_of_runs : register_of (reel_of_raw s) ≡ header ++ text_of (runs_of (frames_of (reel_of_raw s)))
  unfolding register_of refusal_of
  register_of_runs =
      let n = ap length frames_of_film ∙ length-film_of fresh_desk s in
      let size = length-reel_of_raw s in
      rw (le-leb (length (reel_of_raw s)) (length (frames_of (reel_of_raw s)) * 5) (omega arith)) (ap (λ (l : List ℕ). header ++ l) (append-nil (text_of (runs_of (frames_of (reel_of_raw s))))))
