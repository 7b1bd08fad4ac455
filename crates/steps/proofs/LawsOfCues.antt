-- The cues of a step: how many frames they are, the lines that are written of them, and what the step comes to. Assumes nothing.
use mathlib.Core.Path.{◌≡◌, sym, ap, ◌∙◌}
use mathlib.Core.Bool.{true, false, ◌&&◌}
use mathlib.Core.List.{List, [], ◌∷◌, ◌++◌, append-nil}
use Prim.Native.Nat.{ℕ, ◌+◌, ◌-◌, ◌<◌, ◌≤◌}
use native.Mathlib.Omega.{arith}
use lib.ListN.{length}
use borrow.Author.Tests.{le-leb, lt-leb}
use Rattle.std.specs.Prelude.{Result, Ok, Err}
use Rattle.facts.specs.Over.{over}
use Rattle.facts.proofs.Over.{over_all}
use Rattle.wire.specs.Reel.{pairs_of, reel_of_raw}
use Rattle.wire.proofs.LawsOfReel.{pairs_of_then, pairs_of_half}
use Rattle.tape.specs.Writable.{are_cells, is_writable}
use Rattle.tape.specs.Item.{edm_item, eoc_item, bytes_of}
use Rattle.tape.specs.Tape.{loading_of, tape_of}
use Rattle.tape.specs.Programme.{Cue, show, clear, wait, nulls_of, cue_of, programme_of}
use Rattle.tape.proofs.LawsOfSizes.{nulls_of_pairs, pairs_of-nulls_of, loading_of_pairs}
use Rattle.items.proofs.LawsOfItems.{length_twice}
use Rattle.frames.specs.Held.{held_of}
use Rattle.frames.proofs.Laws.{held_of_then}
use Rattle.steps.specs.declared.Wrong.{Wrong}
use Rattle.steps.specs.Take.{Take, frame_count_of, went, timed_of, after_show_of, after_clear_of, after_wait_of, show_of, clear_of, wait_of}
use Rattle.steps.specs.Wrong.{wrong_number_of, wrong_frame_of}
use Rattle.steps.specs.Hand.{plan_of}
use Rattle.steps.proofs.LawsOfHand.{frames_more}
use Rattle.steps.proofs.LawsOfPlan.{plan_held, timed_kept, timed_wrong}

-- Raw bytes that are held are the cues.

pub record Cued (raw : List ℕ) (held : ℕ) (new : List Cue) : Type 0 where
  pub lines : held_of raw held ≡ reel_of_raw (programme_of new)
  pub count : pairs_of (programme_of new) ≡ pairs_of raw + held

module _ (channel : ℕ) where
  pub length_eoc : length (bytes_of channel eoc_item) ≡ 4
  length_eoc = length_twice channel eoc_item (omega arith)

  pub length_edm : length (bytes_of channel edm_item) ≡ 4
  length_edm = length_twice channel edm_item (omega arith)

  -- a buffer of four bytes takes it
  pub edm_is : {raw : List ℕ} → raw ≡ over (0 ∷ 0 ∷ 0 ∷ 0 ∷ []) 0 (bytes_of channel edm_item) → raw ≡ bytes_of channel edm_item
  edm_is e = e ∙ over_all (0 ∷ 0 ∷ 0 ∷ 0 ∷ []) (bytes_of channel edm_item) (sym length_edm)

  pub pairs_edm : pairs_of (bytes_of channel edm_item) ≡ 2
  pairs_edm = omega (arith, pairs_of_half (bytes_of channel edm_item), length_edm)

  pub show_count : (memory : List ℕ) (held : ℕ) → pairs_of (cue_of (show memory channel held)) ≡ pairs_of (tape_of memory channel) + held
  unfolding tape_of
  show_count memory held =
      let load = loading_of memory channel in
      let eoc = bytes_of channel eoc_item in
      let whole = loading_of_pairs channel memory in
      omega (arith, pairs_of_then load (nulls_of held ++ eoc) whole, pairs_of_then (nulls_of held) eoc (nulls_of_pairs held), pairs_of-nulls_of held, pairs_of_then load eoc whole)

  pub show_cued : (memory : List ℕ) (held : ℕ) → Cued (tape_of memory channel) held (show memory channel held ∷ [])
  unfolding tape_of
  show_cued memory held =
      let cue = cue_of (show memory channel held) in
      record {
        lines = held_of_then (loading_of memory channel) (bytes_of channel eoc_item) held (loading_of_pairs channel memory) length_eoc ∙ ap reel_of_raw (sym (append-nil cue));
        count = ap pairs_of (append-nil cue) ∙ show_count memory held;
      }

  pub clear_cued : (held : ℕ) → Cued (bytes_of channel edm_item) held (wait held ∷ clear channel ∷ [])
  clear_cued held =
      let edm = bytes_of channel edm_item in
      let cue = nulls_of held ++ edm in
      let end : nulls_of held ++ (edm ++ []) ≡ cue = ap (λ (l : List ℕ). nulls_of held ++ l) (append-nil edm) in
      record {
        lines = held_of_then [] edm held tt length_edm ∙ ap reel_of_raw (sym end);
        count = ap pairs_of end ∙ omega (arith, pairs_of_then (nulls_of held) edm (nulls_of_pairs held), pairs_of-nulls_of held);
      }

-- frames of nothing are the cue
pub wait_lines : (count : ℕ) → reel_of_raw (nulls_of count) ≡ reel_of_raw (programme_of (wait count ∷ []))
wait_lines count = ap reel_of_raw (sym (append-nil (nulls_of count)))

pub wait_count : (count : ℕ) → pairs_of (programme_of (wait count ∷ [])) ≡ count
wait_count count = ap pairs_of (append-nil (nulls_of count)) ∙ pairs_of-nulls_of count

-- What the steps come to.

module _ (t : Take) (frame : ℕ) where
  abbrev pub show_plan : Result ℕ Wrong
  show_plan = plan_of (frame_count_of t) (pairs_of (tape_of t.screen t.channel)) frame

  abbrev pub clear_plan : Result ℕ Wrong
  clear_plan = plan_of (frame_count_of t) 2 frame

  show_frames : (held : ℕ) → frame_count_of (after_show_of t held) ≡ frame_count_of t + pairs_of (tape_of t.screen t.channel) + held
  show_frames held = omega (arith, frames_more t.cues (show t.screen t.channel held ∷ []), (show_cued t.channel t.screen held).count)

  module _ (fit : (are_cells t.screen && is_writable t.screen) ≡ true) where
    pub show_kept : {held : ℕ} → Ok held ≡ show_plan → show_of t frame ≡ went 0 0 (after_show_of t held)
    unfolding show_of
    show_kept e =
        let pairs = pairs_of (tape_of t.screen t.channel) in
        let held = frame - (frame_count_of t + pairs - 1) in
        rw fit (timed_kept (frame_count_of t) pairs frame t (after_show_of t held) (show_frames held) e ∙ ap (λ (k : ℕ). went 0 0 (after_show_of t k)) (sym (plan_held (frame_count_of t) pairs frame e).0))

    pub show_wrong : {wrong : Wrong} → Err wrong ≡ show_plan → show_of t frame ≡ went (wrong_number_of wrong) (wrong_frame_of wrong) t
    unfolding show_of
    show_wrong e =
        let pairs = pairs_of (tape_of t.screen t.channel) in
        let held = frame - (frame_count_of t + pairs - 1) in
        rw fit (timed_wrong (frame_count_of t) pairs frame t (after_show_of t held) (show_frames held) e)

  pub show_unwritable : (are_cells t.screen && is_writable t.screen) ≡ false → show_of t frame ≡ went 7 0 t
  unfolding show_of
  show_unwritable e = rw e

  clear_frames : (held : ℕ) → frame_count_of (after_clear_of t held) ≡ frame_count_of t + 2 + held
  clear_frames held = omega (arith, frames_more t.cues (wait held ∷ clear t.channel ∷ []), (clear_cued t.channel held).count, pairs_edm t.channel)

  one : frame_count_of t + 2 - 1 ≡ frame_count_of t + 1
  one = omega arith

  pub clear_kept : {held : ℕ} → Ok held ≡ clear_plan → clear_of t frame ≡ went 0 0 (after_clear_of t held)
  unfolding clear_of
  clear_kept e =
      let held = frame - (frame_count_of t + 2 - 1) in
      ap (λ (k : ℕ). timed_of t frame k (after_clear_of t (frame - k))) (sym one)
      ∙ timed_kept (frame_count_of t) 2 frame t (after_clear_of t held) (clear_frames held) e
      ∙ ap (λ (k : ℕ). went 0 0 (after_clear_of t k)) (sym (plan_held (frame_count_of t) 2 frame e).0)

  pub clear_wrong : {wrong : Wrong} → Err wrong ≡ clear_plan → clear_of t frame ≡ went (wrong_number_of wrong) (wrong_frame_of wrong) t
  unfolding clear_of
  clear_wrong e =
      let held = frame - (frame_count_of t + 2 - 1) in
      ap (λ (k : ℕ). timed_of t frame k (after_clear_of t (frame - k))) (sym one) ∙ timed_wrong (frame_count_of t) 2 frame t (after_clear_of t held) (clear_frames held) e

  pub wait_kept : frame_count_of t + frame ≤ 16000 → wait_of t frame ≡ went 0 0 (after_wait_of t frame)
  unfolding wait_of
  wait_kept h = rw (le-leb (frame_count_of (after_wait_of t frame)) 16000 (omega (arith, frames_more t.cues (wait frame ∷ []), wait_count frame)))

  pub wait_wrong : 16000 < frame_count_of t + frame → wait_of t frame ≡ went 3 0 t
  unfolding wait_of
  wait_wrong h = rw (lt-leb (frame_count_of (after_wait_of t frame)) 16000 (omega (arith, frames_more t.cues (wait frame ∷ []), wait_count frame)))
