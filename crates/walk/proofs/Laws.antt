-- What is still to come of a register, step by step: at the start all of it, one frame less after each frame, at the end nothing. Assumes nothing.
use mathlib.Core.Path.{◌≡◌, refl, ap, sym, ◌∙◌}
use mathlib.Core.Bool.{Bool, true, false}
use mathlib.Core.List.{List, [], ◌∷◌, ◌++◌, append_assoc, append-nil}
use Prim.Native.Nat.{ℕ, suc, ◌+◌, ◌-◌, ◌*◌, ◌≤◌}
use native.Mathlib.Nat.{zero-add, add-zero}
use native.Mathlib.Omega.{arith}
use lib.ListN.{length}
use borrow.Author.Tests.{lt-ltb, le-ltb}
use Rattle.facts.specs.Choice.{pick}
use Rattle.facts.proofs.Choice.{below_cases}
use Rattle.wire.specs.declared.Line.{Line}
use Rattle.wire.specs.declared.Line.TheVariants.{Pair, End, Bad}
use Rattle.wire.specs.Line.{line_at}
use Rattle.state.specs.State.{Desk, desk}
use Rattle.decode.specs.Pair.{pair_of}
use Rattle.decode.specs.Step.{fresh_desk}
use Rattle.lines.specs.Line.{header, run, lines_of}
use Rattle.runs.specs.Frames.{screen_of, on_pair, screens_from, most, next_of, frames_of}
use Rattle.runs.specs.Runs.{stretches_from, empty_screen, runs_of}
use Rattle.runs.specs.Register.{text_of, refusal_of, register_of}
use Rattle.runs.proofs.Laws.{text_of_seen_of}
use Rattle.walk.specs.Stage.{stage_of, at_header, at_frames, by_stage, is_live}
use Rattle.walk.specs.Walk.{Place, start_of, stays_of, shown_of, shown_text_of, finish_text_of, headed_of}
use Rattle.walk.proofs.Stages.{by_stage_end, stage_ends}

-- the screens of the frames that are still to come
abbrev pub coming_of : Place → List ℕ → List (List ℕ)
coming_of p reel = screens_from (most - p.walk.frame) reel p.walk.frame (desk p.walk.state p.cells)

-- the lines that are still to come: the stretch that is open, what follows it, and how the reel ends
unfoldable pub body_of : Place → List ℕ → List ℕ
body_of p reel =
    let ss = coming_of p reel in
    text_of (stretches_from p.walk.since p.walk.frame p.held ss) ++ refusal_of (length reel) (p.walk.frame + length ss)

-- all that is still to come
unfoldable pub rest_of : Place → List ℕ → List ℕ
rest_of p reel = by_stage p.walk.stage (header ++ body_of p reel) (body_of p reel) []

-- The frames that are to come, by the line that stands next.

abbrev go_on : List ℕ → ℕ → Desk → ℕ → ℕ → List (List ℕ)
go_on reel frame d first second = screen_of (pair_of d first second) ∷ screens_from (most - (frame + 1)) reel (frame + 1) (pair_of d first second)

coming_next : (reel : List ℕ) (frame : ℕ) (d : Desk) → screens_from (most - frame) reel frame d ≡ on_pair (next_of reel frame) (go_on reel frame d)
unfolding screens_from next_of
coming_next reel frame d =
    let by : Bool → List (List ℕ) = λ t. on_pair (pick t (line_at reel (frame * 5)) End) (go_on reel frame d) in
    below_cases frame most
    (λ l.
    let e : most - frame ≡ suc (most - (frame + 1)) = omega arith in
    ap (λ (k : ℕ). screens_from k reel frame d) e ∙ sym (ap by (lt-ltb frame most l)))
    (λ g.
    let e : most - frame ≡ 0 = omega arith in
    ap (λ (k : ℕ). screens_from k reel frame d) e ∙ sym (ap by (le-ltb frame most g)))

-- what stands next is no pair: no frame is to come
pub coming_none : (p : Place) (reel : List ℕ) {l : Line} → next_of reel p.walk.frame ≡ l → on_pair l (λ first second. [] ∷ []) ≡ [] → coming_of p reel ≡ []
coming_none p reel {l} e n = coming_next reel p.walk.frame (desk p.walk.state p.cells) ∙ none l e n
  where
    none : (l : Line) → next_of reel p.walk.frame ≡ l → on_pair l (λ first second. [] ∷ []) ≡ [] → on_pair (next_of reel p.walk.frame) (go_on reel p.walk.frame (desk p.walk.state p.cells)) ≡ []
    none (Pair first second) f m = cc
    none End f m = ap (λ (x : Line). on_pair x (go_on reel p.walk.frame (desk p.walk.state p.cells))) f
    none Bad f m = ap (λ (x : Line). on_pair x (go_on reel p.walk.frame (desk p.walk.state p.cells))) f

-- One frame more.

-- either way of the test whether the screen stays
chosen : (t : Bool) (since frame : ℕ) (held s : List ℕ) (ss : List (List ℕ)) (refusal : List ℕ)
    → text_of (pick t (stretches_from since (frame + 1) held ss) (run since frame held ∷ stretches_from (frame + 1) (frame + 1) s ss)) ++ refusal
    ≡ pick t [] (lines_of (run since frame held)) ++ (text_of (stretches_from (pick t since (frame + 1)) (frame + 1) (pick t held s) ss) ++ refusal)
unfolding text_of
chosen true since frame held s ss refusal = refl
chosen false since frame held s ss refusal = append_assoc (lines_of (run since frame held)) (text_of (stretches_from (frame + 1) (frame + 1) s ss)) refusal

module _ (p : Place) (reel : List ℕ) (first second : ℕ) (e : next_of reel p.walk.frame ≡ Pair first second) where
  body_shown : body_of p reel ≡ shown_text_of p first second ++ body_of (shown_of p first second) reel
  unfolding body_of shown_of shown_text_of stretches_from
  body_shown =
      let frame = p.walk.frame in
      let d = desk p.walk.state p.cells in
      let s = screen_of (pair_of d first second) in
      let ss = screens_from (most - (frame + 1)) reel (frame + 1) (pair_of d first second) in
      let coming : coming_of p reel ≡ s ∷ ss = coming_next reel frame d ∙ ap (λ (l : Line). on_pair l (go_on reel frame d)) e in
      let count : frame + suc (length ss) ≡ frame + 1 + length ss = omega arith in
      ap (λ (l : List (List ℕ)). text_of (stretches_from p.walk.since frame p.held l) ++ refusal_of (length reel) (frame + length l)) coming
      ∙ ap (λ (k : ℕ). text_of (stretches_from p.walk.since frame p.held (s ∷ ss)) ++ refusal_of (length reel) k) count
      ∙ chosen (stays_of p first second) p.walk.since frame p.held s ss (refusal_of (length reel) (frame + 1 + length ss))

  pub rest_shown : p.walk.stage ≡ at_frames → rest_of p reel ≡ shown_text_of p first second ++ rest_of (shown_of p first second) reel
  unfolding rest_of shown_of
  rest_shown one = simp one body_shown

-- The end, and the header.

pub rest_finish : (p : Place) (reel : List ℕ) → p.walk.stage ≡ at_frames → coming_of p reel ≡ [] → rest_of p reel ≡ finish_text_of p.walk p.held (length reel)
unfolding rest_of body_of stretches_from text_of finish_text_of
rest_finish p reel one none =
    let w = p.walk in
    simp one
    (ap (λ (l : List (List ℕ)). text_of (stretches_from w.since w.frame p.held l) ++ refusal_of (length reel) (w.frame + length l)) none
    ∙ (λ i. append-nil (lines_of (run w.since w.frame p.held)) i ++ refusal_of (length reel) (add-zero w.frame i)))

pub rest_none : (p : Place) (reel : List ℕ) → is_live p.walk.stage ≡ false → rest_of p reel ≡ []
unfolding rest_of
rest_none p reel h = by_stage_end p.walk.stage _ _ h

pub rest_none_behind : (p : Place) (reel : List ℕ) (number : ℕ) → 2 ≤ number → p.walk.stage ≡ stage_of number → rest_of p reel ≡ []
rest_none_behind p reel number h e = rest_none p reel (rw e (stage_ends number h))

pub rest_header : (p : Place) (reel : List ℕ) → p.walk.stage ≡ at_header → rest_of p reel ≡ header ++ rest_of (headed_of p) reel
unfolding rest_of body_of
rest_header p reel e = simp e

-- at the start the whole register is to come
pub rest_start : (reel : List ℕ) → rest_of start_of reel ≡ register_of reel
unfolding rest_of body_of start_of register_of runs_of frames_of fresh_desk
rest_start reel =
    let ss = frames_of reel in
    (λ i. header ++ (sym (text_of_seen_of (stretches_from 0 0 empty_screen ss)) i ++ refusal_of (length reel) (zero-add (length ss) i)))
