-- What the reader gives, asked again and again from the first line, is what the register's frames are made of. Assumes nothing.
use mathlib.Core.Path.{◌≡◌, refl, ap, sym, ◌∙◌}
use mathlib.Core.List.{List, [], ◌∷◌}
use Prim.Native.Nat.{ℕ, zero, suc, ◌+◌, ◌*◌}
use native.Mathlib.Omega.{arith}
use Rattle.wire.specs.declared.Line.{Line}
use Rattle.wire.specs.declared.Line.TheVariants.{Pair, End, Bad}
use Rattle.wire.specs.Line.{line_at}
use Rattle.reel.specs.Walk.{after_of, walk_of}
use Rattle.reel.proofs.Laws.{after_of_at}
use Rattle.state.specs.State.{Desk}
use Rattle.decode.specs.Pair.{pair_of}
use Rattle.decode.specs.Step.{fresh_desk}
use Rattle.runs.specs.Frames.{screen_of, on_pair, screens_from, most, frames_of}

-- the screens of a reader's answers, up to the first that is no pair
abbrev pub screens_of : List Line → Desk → List (List ℕ)
screens_of [] d = []
screens_of (Pair first second ∷ ls) d = screen_of (pair_of d first second) ∷ screens_of ls (pair_of d first second)
screens_of (End ∷ ls) d = []
screens_of (Bad ∷ ls) d = []

-- one frame more, by the line that stands next
module _ (room : ℕ) (reel : List ℕ) (frame : ℕ) (d : Desk) (more : (p : Desk) → screens_from room reel (frame + 1) p ≡ screens_of (walk_of reel ((frame + 1) * 5) room) p) where
  abbrev rest : ℕ → ℕ → List (List ℕ)
  rest first second = screen_of (pair_of d first second) ∷ screens_from room reel (frame + 1) (pair_of d first second)

  by_line : (l : Line) → line_at reel (frame * 5) ≡ l → on_pair (line_at reel (frame * 5)) rest ≡ screens_of (line_at reel (frame * 5) ∷ walk_of reel (after_of reel (frame * 5)) room) d
  by_line (Pair first second) e =
      let next : after_of reel (frame * 5) ≡ (frame + 1) * 5 = after_of_at reel (frame * 5) e ∙ omega arith in
      let p = pair_of d first second in
      ap (λ (l : Line). on_pair l rest) e ∙ ap (λ (ss : List (List ℕ)). screen_of p ∷ ss) (more p) ∙ sym (λ i. screens_of (e i ∷ walk_of reel (next i) room) d)
  by_line End e = ap (λ (l : Line). on_pair l rest) e ∙ sym (λ i. screens_of (e i ∷ walk_of reel (after_of reel (frame * 5)) room) d)
  by_line Bad e = ap (λ (l : Line). on_pair l rest) e ∙ sym (λ i. screens_of (e i ∷ walk_of reel (after_of reel (frame * 5)) room) d)

walked_from : (room : ℕ) (reel : List ℕ) (frame : ℕ) (d : Desk) → screens_from room reel frame d ≡ screens_of (walk_of reel (frame * 5) room) d
unfolding screens_from walk_of
walked_from zero reel frame d = refl
walked_from (suc room) reel frame d = by_line room reel frame d (λ p. walked_from room reel (frame + 1) p) (line_at reel (frame * 5)) refl

-- "walks a lent reel from its first line": `new` stands at 0, `next` gives each line, `moved` goes past it
pub frames_of_walk_of : (reel : List ℕ) → frames_of reel ≡ screens_of (walk_of reel 0 most) fresh_desk
unfolding frames_of
frames_of_walk_of reel = walked_from most reel 0 fresh_desk
