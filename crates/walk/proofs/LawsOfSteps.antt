-- Each step of a walk loses nothing, gives nothing twice, keeps what steps ask, and comes nearer to the end. Assumes nothing.
use mathlib.Core.Path.{◌≡◌, refl, ap, sym, subst, ◌∙◌}
use mathlib.Core.Logic.{◌⊎◌, ⊎_elim}
use mathlib.Core.Bool.{Bool, true}
use mathlib.Core.List.{List, [], ◌++◌, append-nil}
use Prim.Native.Nat.{ℕ, suc, ◌+◌, ◌*◌, ◌<◌, ◌≤◌}
use native.Mathlib.Omega.{arith}
use lib.Dec.{eqb}
use lib.ListN.{length, take, length-replicate}
use lib.Seq.{length-take-le}
use borrow.Author.Tests.{le-leb, lt-leb}
use Rattle.facts.specs.Choice.{pick}
use Rattle.facts.specs.Over.{over}
use Rattle.facts.proofs.Choice.{pick_cases}
use Rattle.wire.specs.declared.Line.{Line}
use Rattle.wire.specs.declared.Line.TheVariants.{Pair, End, Bad}
use Rattle.state.specs.declared.State.{State}
use Rattle.state.specs.State.{Desk, desk}
use Rattle.decode.specs.Pair.{pair_of}
use Rattle.decode.specs.Step.{fresh_desk}
use Rattle.decode.specs.Play.{displayed_of}
use Rattle.decode.specs.Sound.{SoundDesk}
use Rattle.decode.proofs.Laws.{pair_of_sound, fresh_desk_sound}
use Rattle.lines.specs.Line.{header, run, lines_of, refused_of, Put}
use Rattle.lines.proofs.Laws.{put_nothing, put_as, length-refused_of}
use Rattle.runs.specs.Frames.{screen_of, most, next_of}
use Rattle.runs.specs.Runs.{is_same}
use Rattle.runs.specs.Register.{refusal_of}
use Rattle.runs.proofs.Laws.{next_below}
use Rattle.walk.specs.Stage.{at_header, at_frames, is_live, stages_of}
use Rattle.walk.specs.Walk.{Place, place, walk, start_of, Fit, steps_of, stays_of, shown_of, shown_text_of, finished_of, finish_text_of, on_line, on_line_text_of, headed_of, step_of, step_text_of}
use Rattle.walk.proofs.Stages.{live_cases}
use Rattle.walk.proofs.Laws.{coming_of, rest_of, coming_none, rest_shown, rest_finish, rest_none, rest_header}

-- What steps ask is there at the start, and is kept.

length-screen_of : (d : Desk) → SoundDesk d → length (screen_of d) ≡ 960
unfolding displayed_of
length-screen_of d h = let n = h.captions.cells.size in length-take-le 960 d.cells (omega arith)

pub start_fit : Fit start_of
unfolding start_of fresh_desk
start_fit = record { desk = fresh_desk_sound; held = length-replicate {A = ℕ} 960 0; frame = omega arith }

shown_fit : (p : Place) (first second : ℕ) → Fit p → p.walk.frame < most → Fit (shown_of p first second)
unfolding shown_of
shown_fit p first second f h =
    let d = desk p.walk.state p.cells in
    let s = pair_of_sound d first second f.desk in
    record {
      desk = s;
      held = pick_cases (λ (l : List ℕ). length l ≡ 960) (stays_of p first second) (λ t. f.held) (λ t. length-screen_of (pair_of d first second) s);
      frame = omega arith;
    }

-- What the code of a step comes to.

module _ (p : Place) (first second : ℕ) (stays : Bool) {s : State} {cells : List ℕ} (e : desk s cells ≡ pair_of (desk p.walk.state p.cells) first second)
    (t : is_same (take 960 cells) p.held ≡ stays)
  where
    stays_by : stays_of p first second ≡ stays
    unfolding displayed_of
    stays_by = ap (λ (d : Desk). is_same (screen_of d) p.held) (sym e) ∙ t

    pub shown_place : place (walk at_frames (p.walk.frame + 1) (pick stays p.walk.since (p.walk.frame + 1)) s) cells (pick stays p.held (take 960 cells)) ≡ shown_of p first second
    unfolding displayed_of shown_of
    shown_place =
        λ i. place (walk at_frames (p.walk.frame + 1) (pick (sym stays_by i) p.walk.since (p.walk.frame + 1)) (e i).state) (e i).cells (pick (sym stays_by i) p.held (screen_of (e i)))

    pub shown_text : shown_text_of p first second ≡ pick stays [] (lines_of (run p.walk.since p.walk.frame p.held))
    unfolding shown_text_of
    shown_text = ap (λ (b : Bool). pick b [] (lines_of (run p.walk.since p.walk.frame p.held))) stays_by

pub refusal_none : (d : List ℕ) (size frame : ℕ) → size ≤ frame * 5 → Put d (refusal_of size frame) 16 d 0
unfolding refusal_of
refusal_none d size frame h = put_nothing d 16 (simp (le-leb size (frame * 5) h))

pub refusal_some : (d : List ℕ) (size frame number : ℕ) {left : List ℕ} → frame * 5 < size → pick (eqb frame most) 3 5 ≡ number → left ≡ over d 0 (refused_of (frame + 1) number)
    → Put d (refusal_of size frame) 16 left 16
unfolding refusal_of
refusal_some d size frame number h e l =
    put_as {text = refused_of (frame + 1) number} {a = 16} (simp (lt-leb size (frame * 5) h, e)) (omega arith)
    (record { bytes = l; next = sym (length-refused_of (frame + 1) number); room = omega arith })

-- One step, by what it is.

module _ (p : Place) (reel : List ℕ) where
  pub step_header : p.walk.stage ≡ at_header → (step_of p reel ≡ headed_of p) × (step_text_of p reel ≡ header)
  unfolding step_of step_text_of
  step_header e = (simp e, simp e)

  pub step_line : {l : Line} → p.walk.stage ≡ at_frames → next_of reel p.walk.frame ≡ l → (step_of p reel ≡ on_line l p) × (step_text_of p reel ≡ on_line_text_of l p (length reel))
  unfolding step_of step_text_of
  step_line one e = (simp one (ap (λ (x : Line). on_line x p) e), simp one (ap (λ (x : Line). on_line_text_of x p (length reel)) e))

  pub step_finish : {l : Line} → p.walk.stage ≡ at_frames → next_of reel p.walk.frame ≡ l → (l ≡ End) ⊎ (l ≡ Bad)
      → (step_of p reel ≡ place (finished_of p.walk) p.cells p.held) × (step_text_of p reel ≡ finish_text_of p.walk p.held (length reel))
  step_finish one e or = ⊎_elim (λ f. step_line one (e ∙ f)) (λ f. step_line one (e ∙ f)) or

  module _ (P : List ℕ → Place → Type 0) (live : is_live p.walk.stage ≡ true) (head : p.walk.stage ≡ at_header → P header (headed_of p))
      (line : (l : Line) → p.walk.stage ≡ at_frames → next_of reel p.walk.frame ≡ l → P (on_line_text_of l p (length reel)) (on_line l p))
    where
      pub step_cases : P (step_text_of p reel) (step_of p reel)
      step_cases =
          live_cases p.walk.stage live
          (λ e. let s = step_header e in subst (λ (q : Place). P (step_text_of p reel) q) (sym s.0) (subst (λ (t : List ℕ). P t (headed_of p)) (sym s.1) (head e)))
          (λ e.
          let l = next_of reel p.walk.frame in
          let s = step_line {l = l} e refl in
          subst (λ (q : Place). P (step_text_of p reel) q) (sym s.0) (subst (λ (t : List ℕ). P t (on_line l p)) (sym s.1) (line l e refl)))

-- A step loses nothing and gives nothing twice, keeps what steps ask, and is one step.

module _ (p : Place) (reel : List ℕ) (f : Fit p) (live : is_live p.walk.stage ≡ true) where
  ended : p.walk.stage ≡ at_frames → coming_of p reel ≡ []
      → finish_text_of p.walk p.held (length reel) ++ rest_of (place (finished_of p.walk) p.cells p.held) reel ≡ rest_of p reel
  unfolding finished_of
  ended one none =
      let text = finish_text_of p.walk p.held (length reel) in
      ap (λ (l : List ℕ). text ++ l) (rest_none (place (finished_of p.walk) p.cells p.held) reel refl)
      ∙ append-nil text ∙ sym (rest_finish p reel one none)

  pub step_rest : step_text_of p reel ++ rest_of (step_of p reel) reel ≡ rest_of p reel
  step_rest = step_cases p reel (λ text q. text ++ rest_of q reel ≡ rest_of p reel) live (λ e. sym (rest_header p reel e)) line
    where
      line : (l : Line) → p.walk.stage ≡ at_frames → next_of reel p.walk.frame ≡ l → on_line_text_of l p (length reel) ++ rest_of (on_line l p) reel ≡ rest_of p reel
      line (Pair first second) one e = sym (rest_shown p reel first second e one)
      line End one e = ended one (coming_none p reel e refl)
      line Bad one e = ended one (coming_none p reel e refl)

  pub step_fit : Fit (step_of p reel)
  unfolding finished_of
  step_fit = step_cases p reel (λ text q. Fit q) live (λ e. record { desk = f.desk; held = f.held; frame = f.frame }) line
    where
      line : (l : Line) → p.walk.stage ≡ at_frames → next_of reel p.walk.frame ≡ l → Fit (on_line l p)
      line (Pair first second) one e = shown_fit p first second f (next_below reel p.walk.frame e)
      line End one e = record { desk = f.desk; held = f.held; frame = f.frame }
      line Bad one e = record { desk = f.desk; held = f.held; frame = f.frame }

  pub step_on : steps_of p.walk ≡ suc (steps_of (step_of p reel).walk)
  unfolding finished_of shown_of
  step_on = step_cases p reel (λ text q. steps_of p.walk ≡ suc (steps_of q.walk)) live (λ e. omega (arith, ap stages_of e)) line
    where
      line : (l : Line) → p.walk.stage ≡ at_frames → next_of reel p.walk.frame ≡ l → steps_of p.walk ≡ suc (steps_of (on_line l p).walk)
      line (Pair first second) one e = omega (arith, ap stages_of one, next_below reel p.walk.frame e)
      line End one e = omega (arith, ap stages_of one)
      line Bad one e = omega (arith, ap stages_of one)

-- No second walk fits the start.
pub start_only : {p q : Place} → p ≡ start_of → q ≡ start_of → p ≡ q
start_only e f = e ∙ sym f
