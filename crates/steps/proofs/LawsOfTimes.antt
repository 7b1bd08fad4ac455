-- A screen that is shown, a display that is cleared and frames that pass, each from what was planned and written. Assumes nothing.
use mathlib.Core.Path.{◌≡◌, sym, ap, ◌∙◌}
use mathlib.Core.Bool.{Bool, true, false, ◌&&◌}
use mathlib.Core.List.{List, [], ◌∷◌, ◌++◌}
use Prim.Native.Nat.{ℕ, ◌+◌, ◌*◌, ◌/◌, ◌<◌, ◌≤◌}
use native.Mathlib.Omega.{arith}
use lib.ListN.{length, replicate}
use Rattle.std.specs.Prelude.{Result, Ok, Err}
use Rattle.facts.specs.Over.{over}
use Rattle.wire.specs.Reel.{pairs_of, reel_of_raw}
use Rattle.wire.proofs.LawsOfReel.{length-reel_of_raw}
use Rattle.tape.specs.Writable.{are_cells, is_writable}
use Rattle.tape.specs.Item.{edm_item, bytes_of}
use Rattle.tape.specs.Tape.{tape_of}
use Rattle.tape.specs.Channel.{number_of_channel}
use Rattle.tape.specs.Programme.{Cue, show, clear, wait, nulls_of, programme_of}
use Rattle.tape.proofs.LawsOfSizes.{pairs_of-nulls_of}
use Rattle.items.proofs.LawsOfLaid.{tail_of, tail_room}
use Rattle.frames.specs.Held.{held_of}
use Rattle.steps.specs.declared.Hand.{Hand}
use Rattle.steps.specs.declared.Wrong.{Wrong}
use Rattle.steps.specs.declared.Wrong.TheVariants.{TooManyFrames}
use Rattle.steps.specs.Take.{went, take, blank, show_of, clear_of, wait_of}
use Rattle.steps.specs.Hand.{hand, Fit, take_of, Does, plan_of}
use Rattle.steps.proofs.LawsOfHand.{does_cues, does_stopped}
use Rattle.steps.proofs.LawsOfPlan.{plan_held}
use Rattle.steps.proofs.LawsOfCues.{Cued, show_cued, clear_cued, wait_lines, wait_count, pairs_edm, show_plan, show_kept, show_wrong, clear_kept, clear_wrong, wait_kept, wait_wrong}
use Rattle.steps.proofs.LawsOfTapes.{Sized, sized_tape, cue_room}

-- more frames on the same channel
pub fit_more : (h : Hand) (drawn : Bool) (frames : ℕ) → frames ≤ 16000 → Fit h → Fit (hand h.channel drawn frames)
fit_more h drawn frames l f = record { room = l }

module _ (h : Hand) (screen raw : List ℕ) (frame : ℕ) (tape : raw ≡ tape_of screen (number_of_channel h.channel)) where
  pub load_size : Sized raw
  load_size = rw tape (sized_tape screen (number_of_channel h.channel))

  -- the plan of the step
  load_plan : {p : Result ℕ Wrong} → p ≡ plan_of h.frames (length raw / 2) frame → (cues : List Cue) → h.frames ≡ pairs_of (programme_of cues) → p ≡ show_plan (take_of h screen cues) frame
  load_plan e cues n = e ∙ (λ i. plan_of (n i) ((load_size.pairs ∙ ap pairs_of tape) i) frame)

  module _ {held : ℕ} (e : Ok held ≡ plan_of h.frames (length raw / 2) frame) where
    load_cued : Cued raw held (show screen (number_of_channel h.channel) held ∷ [])
    load_cued = rw tape (show_cued (number_of_channel h.channel) screen held)

    pub load_end : h.frames + length raw / 2 + held ≤ 16000
    load_end = (plan_held h.frames (length raw / 2) frame e).1

    pub load_room : (out : List ℕ) → length out ≡ 80000 → length (held_of raw held) ≤ length (tail_of out (h.frames * 5))
    load_room out size = let s = load_size.pairs in cue_room raw held (show screen (number_of_channel h.channel) held ∷ []) h.frames out load_cued (omega (arith, load_end)) size

    pub load_kept : (out : List ℕ) → (are_cells screen && is_writable screen) ≡ true → {screen₁ out₁ : List ℕ} → screen₁ ≡ replicate 960 0
        → out₁ ≡ over out (h.frames * 5) (held_of raw held) → Does (λ t. show_of t frame) h screen out (Ok (hand h.channel false (h.frames + length raw / 2 + held))) screen₁ out₁
    unfolding blank
    load_kept out fit {screen₁} b o =
        let empty : blank ≡ screen₁ = sym b in
        let s = load_size.pairs in
        does_cues (λ t. show_of t frame) h screen out (show screen (number_of_channel h.channel) held ∷ []) (omega (arith, load_cued.count)) (o ∙ ap (over out (h.frames * 5)) load_cued.lines)
        (λ cues n. show_kept (take_of h screen cues) frame fit (load_plan e cues n) ∙ (λ i. went 0 0 (take (number_of_channel h.channel) false (empty i) (cues ++ (show screen (number_of_channel h.channel) held ∷ [])))))

  pub load_wrong : (out : List ℕ) → (are_cells screen && is_writable screen) ≡ true → {wrong : Wrong} → Err wrong ≡ plan_of h.frames (length raw / 2) frame
      → Does (λ t. show_of t frame) h screen out (Err wrong) screen out
  load_wrong out fit e = does_stopped (λ t. show_of t frame) h screen out (λ cues n. show_wrong (take_of h screen cues) frame fit (load_plan e cues n))

module _ (h : Hand) (frame : ℕ) where
  edm_plan : {p : Result ℕ Wrong} → p ≡ plan_of h.frames 2 frame → (cues : List Cue) → h.frames ≡ pairs_of (programme_of cues) → p ≡ plan_of (pairs_of (programme_of cues)) 2 frame
  edm_plan e cues n = e ∙ ap (λ (k : ℕ). plan_of k 2 frame) n

  module _ {held : ℕ} (e : Ok held ≡ plan_of h.frames 2 frame) where
    pub clear_end : h.frames + 2 + held ≤ 16000
    clear_end = (plan_held h.frames 2 frame e).1

    module _ (raw out : List ℕ) (edm : raw ≡ bytes_of (number_of_channel h.channel) edm_item) where
      edm_cued : Cued raw held (wait held ∷ clear (number_of_channel h.channel) ∷ [])
      edm_cued = rw edm (clear_cued (number_of_channel h.channel) held)

      edm_pairs : pairs_of raw ≡ 2
      edm_pairs = ap pairs_of edm ∙ pairs_edm (number_of_channel h.channel)

      pub clear_room : length out ≡ 80000 → length (held_of raw held) ≤ length (tail_of out (h.frames * 5))
      clear_room size = let two = edm_pairs in cue_room raw held (wait held ∷ clear (number_of_channel h.channel) ∷ []) h.frames out edm_cued (omega (arith, clear_end)) size

      pub clear_goes : (screen : List ℕ) {r : Hand} {out₁ : List ℕ} → r ≡ hand h.channel h.drawn (h.frames + (2 + held))
          → out₁ ≡ over out (h.frames * 5) (held_of raw held) → Does (λ t. clear_of t frame) h screen out (Ok r) screen out₁
      clear_goes screen r o =
          let two = edm_pairs in
          does_cues (λ t. clear_of t frame) h screen out (wait held ∷ clear (number_of_channel h.channel) ∷ []) (ap (λ (k : Hand). k.frames) r ∙ omega (arith, edm_cued.count))
          (o ∙ ap (over out (h.frames * 5)) edm_cued.lines)
          (λ cues n. clear_kept (take_of h screen cues) frame (edm_plan e cues n) ∙ (λ i. went 0 0 (take_of (sym r i) screen (cues ++ (wait held ∷ clear (number_of_channel h.channel) ∷ [])))))

  pub clear_stopped : (screen out : List ℕ) {wrong : Wrong} → Err wrong ≡ plan_of h.frames 2 frame → Does (λ t. clear_of t frame) h screen out (Err wrong) screen out
  clear_stopped screen out e = does_stopped (λ t. clear_of t frame) h screen out (λ cues n. clear_wrong (take_of h screen cues) frame (edm_plan e cues n))

module _ (h : Hand) (count : ℕ) (out : List ℕ) where
  pub wait_room : length out ≡ 80000 → h.frames + count ≤ 16000 → length (reel_of_raw (nulls_of count)) ≤ length (tail_of out (h.frames * 5))
  wait_room size l = tail_room out (h.frames * 5) _ (omega (arith, length-reel_of_raw (nulls_of count), pairs_of-nulls_of count))

  pub wait_goes : (screen : List ℕ) {r : Hand} {out₁ : List ℕ} → h.frames + count ≤ 16000 → r ≡ hand h.channel h.drawn (h.frames + count)
      → out₁ ≡ over out (h.frames * 5) (reel_of_raw (nulls_of count)) → Does (λ t. wait_of t count) h screen out (Ok r) screen out₁
  wait_goes screen l r o =
      does_cues (λ t. wait_of t count) h screen out (wait count ∷ []) (ap (λ (k : Hand). k.frames) r ∙ omega (arith, wait_count count)) (o ∙ ap (over out (h.frames * 5)) (wait_lines count))
      (λ cues n. wait_kept (take_of h screen cues) count (omega arith) ∙ (λ i. went 0 0 (take_of (sym r i) screen (cues ++ (wait count ∷ [])))))

  pub wait_stopped : (screen : List ℕ) → 16000 < h.frames + count → Does (λ t. wait_of t count) h screen out (Err TooManyFrames) screen out
  wait_stopped screen l = does_stopped (λ t. wait_of t count) h screen out (λ cues n. wait_wrong (take_of h screen cues) count (omega arith))
