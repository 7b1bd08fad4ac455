-- What is in hand says what a step came to: where nothing is written, and where cues are written behind the others. Assumes nothing.
use mathlib.Core.Path.{◌≡◌, refl, sym, ap, subst, ◌∙◌}
use mathlib.Core.Bool.{Bool}
use mathlib.Core.List.{List, ◌++◌}
use Prim.Native.Nat.{ℕ, ◌+◌, ◌*◌}
use native.Mathlib.Omega.{arith}
use lib.ListN.{length}
use Rattle.std.specs.Prelude.{Option, None, Result, Ok, Err, IsErrAnd}
use Rattle.std.proofs.lemmas.Result.{err_from_is_err_and}
use Rattle.facts.specs.Over.{over}
use Rattle.wire.specs.Reel.{pairs_of, reel_of_raw}
use Rattle.wire.proofs.LawsOfReel.{pairs_of_then, reel_of_raw_then, length-reel_of_raw}
use Rattle.facts.proofs.Over.{over_then}
use Rattle.tape.specs.Programme.{Cue, programme_of}
use Rattle.tape.proofs.LawsOfSizes.{programme_of_then, programme_of_pairs}
use Rattle.steps.specs.declared.Hand.{Hand}
use Rattle.steps.specs.declared.Wrong.{Wrong}
use Rattle.steps.specs.Take.{Take, Went, went}
use Rattle.steps.specs.Wrong.{wrong_number_of, wrong_frame_of, wrong_of}
use Rattle.steps.specs.Hand.{hand, Fit, hand_of, take_of, Goes, Does}

-- the same channel, and no frame more
pub fit_same : (h : Hand) (drawn : Bool) → Fit h → Fit (hand h.channel drawn h.frames)
fit_same h drawn f = record { room = f.room }

-- the frames of cues behind others
pub frames_more : (cues new : List Cue) → pairs_of (programme_of (cues ++ new)) ≡ pairs_of (programme_of cues) + pairs_of (programme_of new)
frames_more cues new = ap pairs_of (programme_of_then cues new) ∙ pairs_of_then (programme_of cues) (programme_of new) (programme_of_pairs cues)

pub goes_at : {w v : Went} {h : Hand} {wrong : Option Wrong} {screen first out : List ℕ} → w ≡ v → Goes v h wrong screen first out → Goes w h wrong screen first out
goes_at {h = h} {wrong = wrong} {screen = screen} {first = first} {out = out} e g = subst (λ (w : Went). Goes w h wrong screen first out) (sym e) g

module _ (f : Take → Went) (h : Hand) (screen out : List ℕ) where
  -- no frame more
  pub does_same : {r : Hand} {screen₁ : List ℕ} → r.frames ≡ h.frames
      → ((cues : List Cue) → h.frames ≡ pairs_of (programme_of cues) → f (take_of h screen cues) ≡ went 0 0 (take_of r screen₁ cues)) → Does f h screen out (Ok r) screen₁ out
  does_same e w cues first s = goes_at (w cues s.frames) (record { same = refl; stands = record { frames = e ∙ s.frames; lines = s.lines } })

  -- the frames of the cues that are new
  pub does_cues : {r : Hand} {screen₁ : List ℕ} (new : List Cue) {out₁ : List ℕ} → r.frames ≡ h.frames + pairs_of (programme_of new)
      → out₁ ≡ over out (h.frames * 5) (reel_of_raw (programme_of new))
      → ((cues : List Cue) → h.frames ≡ pairs_of (programme_of cues) → f (take_of h screen cues) ≡ went 0 0 (take_of r screen₁ (cues ++ new))) → Does f h screen out (Ok r) screen₁ out₁
  does_cues new e o w cues first s =
      let old = programme_of cues in
      let more = programme_of new in
      let whole = programme_of_pairs cues in
      let end : h.frames * 5 ≡ 0 + length (reel_of_raw old) = omega (arith, length-reel_of_raw old, s.frames) in
      goes_at (w cues s.frames)
      (record {
        same = refl;
        stands = record {
          frames = omega (arith, s.frames, frames_more cues new);
          lines = over_then first 0 (reel_of_raw old) (reel_of_raw more) (h.frames * 5) end s.lines o
              ∙ ap (over first 0) (sym (reel_of_raw_then old more whole) ∙ ap reel_of_raw (sym (programme_of_then cues new)));
        };
      })

  -- nothing is done
  pub does_stopped : {wrong : Wrong} → ((cues : List Cue) → h.frames ≡ pairs_of (programme_of cues) → f (take_of h screen cues) ≡ went (wrong_number_of wrong) (wrong_frame_of wrong) (take_of h screen cues))
      → Does f h screen out (Err wrong) screen out
  does_stopped w cues first s = goes_at (w cues s.frames) (record { same = refl; stands = s })

  module _ (r : Result Hand Wrong) {screen₁ out₁ : List ℕ} where
    -- by what f is there
    pub does_as : (g : Take → Went) → ((cues : List Cue) → g (take_of h screen cues) ≡ f (take_of h screen cues)) → Does f h screen out r screen₁ out₁ → Does g h screen out r screen₁ out₁
    does_as g e d cues first s = goes_at (e cues) (d cues first s)

    -- one behind the other
    pub goes_then : {w : Went} (first : List ℕ) → Goes w h None screen first out → Does f h screen out r screen₁ out₁ → Goes (f w.to) (hand_of h r) (wrong_of r) screen₁ first out₁
    goes_then {w} first g d = goes_at (ap (λ (v : Went). f v.to) (sym g.same)) (d w.to.cues first g.stands)

    -- what is wrong is handed on
    pub does_exit : {wrong : Wrong} → IsErrAnd r (λ y. y ≡ wrong) → Does f h screen out (Err wrong) screen₁ out₁ → Does f h screen out r screen₁ out₁
    does_exit x d = let p = err_from_is_err_and r x in subst (λ (q : Result Hand Wrong). Does f h screen out q screen₁ out₁) (sym (p.1 ∙ ap Err p.2)) d
