-- A screen that is shown at a frame, and a display that is cleared at one, come at that frame. Assumes nothing.
use mathlib.Core.Path.{◌≡◌, refl}
use mathlib.Core.Bool.{true, ◌&&◌}
use mathlib.Core.List.{List, [], ◌∷◌, ◌++◌}
use Prim.Native.Nat.{ℕ, ◌+◌, ◌-◌, ◌≤◌}
use native.Mathlib.Omega.{arith}
use lib.Dec.{eqb, leb}
use borrow.Author.Tests.{eqb-true, leb-true}
use Rattle.facts.proofs.Choice.{pick_cases, or_cases}
use Rattle.wire.specs.Reel.{pairs_of}
use Rattle.tape.specs.Writable.{are_cells, is_writable}
use Rattle.tape.specs.Tape.{tape_of}
use Rattle.tape.specs.Programme.{Cue, show, clear, wait, cue_of}
use Rattle.steps.specs.Take.{Take, frame_count_of, Went, is_kept, timed_of, after_show_of, after_clear_of, show_of, clear_of}
use Rattle.steps.proofs.LawsOfCues.{show_count}
use Rattle.steps.proofs.LawsOfTapes.{sized_tape}

-- the screen's cue is behind the others, and of its two EOC, which are its last pairs, the first comes at the frame
pub record ShownAt (t : Take) (frame : ℕ) (cues : List Cue) : Type 0 where
  pub held : ℕ
  pub cue : cues ≡ t.cues ++ (show t.screen t.channel held ∷ [])
  pub at : frame_count_of t + pairs_of (cue_of (show t.screen t.channel held)) - 1 ≡ frame

-- so many frames of nothing are behind the others, then the two EDM, and the first comes at the frame
pub record ClearedAt (t : Take) (frame : ℕ) (cues : List Cue) : Type 0 where
  pub held : ℕ
  pub cue : cues ≡ t.cues ++ (wait held ∷ clear t.channel ∷ [])
  pub at : frame_count_of t + held + 1 ≡ frame

module _ (t : Take) (frame : ℕ) (asked : frame ≡ 0 → ⊥) where
  kept_late : (earliest : ℕ) → is_kept frame earliest ≡ true → earliest ≤ frame
  kept_late earliest e = or_cases (eqb frame 0) e (λ z. absurd (asked (eqb-true frame 0 z))) (λ l. leb-true earliest frame l)

  timed_at : (P : List Cue → Type 0) (earliest : ℕ) (next : Take) → (earliest ≤ frame → P next.cues) → (timed_of t frame earliest next).wrong ≡ 0 → P (timed_of t frame earliest next).to.cues
  timed_at P earliest next f =
      pick_cases (λ (w : Went). w.wrong ≡ 0 → P w.to.cues) (is_kept frame earliest)
      (λ k. pick_cases (λ (w : Went). w.wrong ≡ 0 → P w.to.cues) (leb (frame_count_of next) 16000) (λ l e. f (kept_late earliest k)) (λ l e. absurd (omega arith)))
      (λ k e. absurd (omega arith))

  pub show_of_at : (show_of t frame).wrong ≡ 0 → ShownAt t frame (show_of t frame).to.cues
  unfolding show_of
  show_of_at =
      let pairs = pairs_of (tape_of t.screen t.channel) in
      let earliest = frame_count_of t + pairs - 1 in
      let held = frame - earliest in
      pick_cases (λ (w : Went). w.wrong ≡ 0 → ShownAt t frame w.to.cues) (are_cells t.screen && is_writable t.screen)
      (λ fit. timed_at (ShownAt t frame) earliest (after_show_of t held)
      (λ l. record { held = held; cue = refl; at = omega (arith, show_count t.channel t.screen held, (sized_tape t.screen t.channel).low, (sized_tape t.screen t.channel).pairs) }))
      (λ fit e. absurd (omega arith))

  pub clear_of_at : (clear_of t frame).wrong ≡ 0 → ClearedAt t frame (clear_of t frame).to.cues
  unfolding clear_of
  clear_of_at =
      let earliest = frame_count_of t + 1 in
      timed_at (ClearedAt t frame) earliest (after_clear_of t (frame - earliest)) (λ l. record { held = frame - earliest; cue = refl; at = omega arith })
