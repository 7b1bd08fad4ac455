-- Which step stands at a place of a script, and one step more. Assumes nothing.
use mathlib.Core.Path.{◌≡◌, refl, sym, ap, ◌∙◌}
use mathlib.Core.Bool.{Bool, true, false, ◌&&◌, not}
use mathlib.Core.List.{List, []}
use Prim.Native.Nat.{ℕ, zero, suc, ◌+◌, ◌*◌, ◌<◌, ◌≤◌}
use native.Mathlib.Numerals.{add-one}
use native.Mathlib.Omega.{arith}
use lib.Dec.{eqb, leb}
use lib.ListN.{length, get_or}
use borrow.Author.Tests.{eq-eqb, ne_eqb}
use Rattle.std.specs.Prelude.{Option, Some, None, Result, Ok, Err, is_some}
use Rattle.std.proofs.lemmas.Bool.{true≢false, false≢true}
use Rattle.facts.specs.Choice.{pick}
use Rattle.facts.proofs.Choice.{below_cases}
use Rattle.facts.proofs.Over.{over_nil}
use Rattle.tape.specs.declared.Channel.TheVariants.{One}
use Rattle.tape.specs.Programme.{Cue}
use Rattle.steps.specs.declared.Hand.{Hand}
use Rattle.steps.specs.declared.Wrong.{Wrong}
use Rattle.script.specs.Step.{Step, none, size, step_at}
use Rattle.steps.specs.Take.{take, blank, Went, went, show_of}
use Rattle.steps.specs.Wrong.{wrong_number_of, wrong_of}
use Rattle.script.specs.Script.{Made, made, step_of, on_of, kept_of, more_of, reached_of, show_last_of}
use Rattle.steps.specs.Hand.{hand, Fit, hand_of, take_of, Goes, Does}
use Rattle.steps.proofs.LawsOfCells.{some_number}
use Rattle.steps.proofs.LawsOfHand.{goes_at, goes_then}

-- What is no step.

module _ (script : List ℕ) (at : ℕ) (other : (eqb (get_or script at 0) 1 && leb (get_or script (at + 4) 0) 32) ≡ false) where
  pub step_none : (get_or script at 0 ≡ 2 → ⊥) → (get_or script at 0 ≡ 3 → ⊥) → (get_or script at 0 ≡ 4 → ⊥) → (get_or script at 0 ≡ 5 → ⊥) → step_at script at ≡ none
  unfolding step_at
  step_none two three four five = let k = get_or script at 0 in rw (other, ne_eqb k 2 two, ne_eqb k 3 three, ne_eqb k 4 four, ne_eqb k 5 five)

-- The first steps, and one more.

-- so many were kept, and none was wrong
pub record Reaches (script : List ℕ) (k : ℕ) (h : Hand) (screen first out : List ℕ) : Type 0 where
  pub fit : Fit h
  pub kept : (reached_of script k).kept ≡ k
  pub goes : Goes (reached_of script k).last h None screen first out

pub reach_none : (script out : List ℕ) {screen : List ℕ} → screen ≡ blank → Reaches script 0 (hand One false 0) screen out out
unfolding reached_of
reach_none script out e =
    record {
      fit = record { room = omega arith };
      kept = refl;
      goes = record { same = ap (λ (s : List ℕ). went 0 0 (take 1 false s [])) e; stands = record { frames = refl; lines = sym (over_nil out 0) } };
    }

module _ (w : Went) (s : Step) where
  on_right : w.wrong ≡ 0 → on_of w s ≡ step_of w.to s
  unfolding on_of
  on_right e = rw (eq-eqb w.wrong 0 e)

  on_wrong : (w.wrong ≡ 0 → ⊥) → on_of w s ≡ w
  unfolding on_of
  on_wrong some = rw (ne_eqb w.wrong 0 some)

-- the last step so far, and the next one
abbrev next_went : List ℕ → ℕ → Went
next_went script k = on_of (reached_of script k).last (step_at script (k * size))

-- the next step, of which r is given back
goes_next : (script : List ℕ) (k : ℕ) {h : Hand} {screen out : List ℕ} (first : List ℕ) → Reaches script k h screen first out → (r : Result Hand Wrong) {screen₁ out₁ : List ℕ}
    → Does (λ t. step_of t (step_at script (k * 40))) h screen out r screen₁ out₁ → Goes (next_went script k) (hand_of h r) (wrong_of r) screen₁ first out₁
goes_next script k {h} {screen} {out} first p r d =
    goes_at (on_right (reached_of script k).last (step_at script (k * 40)) (sym (ap (λ (v : Went). v.wrong) p.goes.same)))
    (goes_then (λ t. step_of t (step_at script (k * 40))) h screen out r first p.goes d)

pub reach_more : (script : List ℕ) (k : ℕ) {h : Hand} {screen out : List ℕ} (first : List ℕ) → Reaches script k h screen first out → {q : Hand} {screen₁ out₁ : List ℕ} → Fit q
    → Does (λ t. step_of t (step_at script (k * 40))) h screen out (Ok q) screen₁ out₁ → Reaches script (k + 1) q screen₁ first out₁
unfolding reached_of
reach_more script k first p {q} fit d =
    let goes = goes_next script k first p (Ok q) d in
    let right : (next_went script k).wrong ≡ 0 = sym (ap (λ (v : Went). v.wrong) goes.same) in
    let kept : kept_of (reached_of script k).kept (next_went script k).wrong ≡ suc k = (λ i. kept_of (p.kept i) (right i)) ∙ add-one k in
    rw add-one (record { fit = fit; kept = kept; goes = goes })

-- A wrong step is the last.

more_wrong : (m : Made) (s : Step) → (m.last.wrong ≡ 0 → ⊥) → more_of m s ≡ m
more_wrong m s some = ap (λ (w : Went). made (kept_of m.kept w.wrong) w) (on_wrong m.last s some) ∙ rw (ne_eqb m.last.wrong 0 some)

pub reached_stays : (script : List ℕ) (k n : ℕ) → ((reached_of script k).last.wrong ≡ 0 → ⊥) → k ≤ n → reached_of script n ≡ reached_of script k
unfolding reached_of
reached_stays script k zero some h = let e : 0 ≡ k = omega arith in ap (reached_of script) e
reached_stays script k (suc n) some h =
    below_cases k (suc n)
    (λ g. ap (λ (m : Made). more_of m (step_at script (n * size))) (reached_stays script k n some (omega arith)) ∙ more_wrong (reached_of script k) (step_at script (n * size)) some)
    (λ g. let e : suc n ≡ k = omega arith in ap (reached_of script) e)

-- what all steps come to, where one is wrong
pub record Stopped (script : List ℕ) (k n : ℕ) (h : Hand) (wrong : Wrong) (screen first out : List ℕ) : Type 0 where
  pub kept : k ≡ (reached_of script n).kept
  pub goes : Goes (reached_of script n).last h (Some wrong) screen first out

pub reach_stopped : (script : List ℕ) (k n : ℕ) {h : Hand} {screen out : List ℕ} (first : List ℕ) → Reaches script k h screen first out → {wrong : Wrong} {screen₁ out₁ : List ℕ} → k < n
    → Does (λ t. step_of t (step_at script (k * 40))) h screen out (Err wrong) screen₁ out₁ → Stopped script k n h wrong screen₁ first out₁
unfolding reached_of
reach_stopped script k n first p {wrong} l d =
    let goes = goes_next script k first p (Err wrong) d in
    let number : wrong_number_of wrong ≡ (next_went script k).wrong = ap (λ (v : Went). v.wrong) goes.same in
    let some : (next_went script k).wrong ≡ 0 → ⊥ = λ z. some_number wrong (number ∙ z) in
    let stays : reached_of script n ≡ more_of (reached_of script k) (step_at script (k * size)) = reached_stays script (suc k) n some (omega arith) in
    let kept : kept_of (reached_of script k).kept (next_went script k).wrong ≡ k = rw (ne_eqb (next_went script k).wrong 0 some) p.kept in
    record {
      kept = sym (ap (λ (m : Made). m.kept) stays ∙ kept);
      goes = goes_at (ap (λ (m : Made). m.last) stays) goes;
    }

-- The end.

-- a screen still to be shown is shown
shown_right : (h : Hand) (screen : List ℕ) (cues : List Cue) → h.drawn ≡ true → show_last_of (went 0 0 (take_of h screen cues)) ≡ show_of (take_of h screen cues) 0
unfolding show_last_of
shown_right h screen cues drawn = rw drawn

none_either : (b d : Bool) (x w : Went) → d ≡ false → pick (b && d) x w ≡ w
none_either true d x w e = rw e
none_either false d x w e = refl

pub none_is : (wrong : Option Wrong) → is_some wrong ≡ false → wrong ≡ None
none_is (Some wrong) right = absurd (true≢false right)
none_is None right = refl

module _ {w : Went} {h : Hand} {screen out : List ℕ} (first : List ℕ) where
  pub last_shown : (wrong : Option Wrong) → is_some wrong ≡ false → h.drawn ≡ true → Goes w h wrong screen first out
      → (r : Result Hand Wrong) {screen₁ out₁ : List ℕ} → Does (λ t. show_of t 0) h screen out r screen₁ out₁ → Goes (show_last_of w) (hand_of h r) (wrong_of r) screen₁ first out₁
  last_shown (Some wrong) right drawn g r d = absurd (true≢false right)
  last_shown None right drawn g r d = goes_at (ap show_last_of (sym g.same) ∙ shown_right h screen w.to.cues drawn) (d w.to.cues first g.stands)

  -- none where a step was wrong
  last_wrong : (wrong : Option Wrong) → is_some wrong ≡ true → Goes w h wrong screen first out → Goes (show_last_of w) h wrong screen first out
  unfolding show_last_of
  last_wrong None some g = absurd (false≢true some)
  last_wrong (Some wrong) some g =
      let e : wrong_number_of wrong ≡ w.wrong = ap (λ (v : Went). v.wrong) g.same in
      goes_at (rw (ne_eqb w.wrong 0 (λ z. some_number wrong (e ∙ z)))) g

  -- none where no screen is still to be shown
  last_empty : (wrong : Option Wrong) → h.drawn ≡ false → Goes w h wrong screen first out → Goes (show_last_of w) h wrong screen first out
  unfolding show_last_of
  last_empty wrong empty g = goes_at (none_either (eqb w.wrong 0) w.to.drawn (show_of w.to 0) w (sym (ap (λ (v : Went). v.to.drawn) g.same) ∙ empty)) g

  pub last_kept : (wrong : Option Wrong) (right : Bool) → is_some wrong ≡ not right → (right && h.drawn) ≡ false → Goes w h wrong screen first out → Goes (show_last_of w) h wrong screen first out
  last_kept wrong true s e g = last_empty wrong e g
  last_kept wrong false s e g = last_wrong wrong s g
