-- Every step keeps 16,000 frames, a screen of 960 bytes, a channel that there is, and cues that can be kept. Assumes nothing.
use mathlib.Core.Path.{◌≡◌, refl, ◌∙◌}
use mathlib.Core.Bool.{◌&&◌}
use mathlib.Core.List.{List, [], ◌∷◌, ◌++◌}
use Prim.Native.Nat.{ℕ, ◌+◌, ◌-◌, ◌*◌, ◌≤◌}
use lib.Dec.{eqb, leb}
use lib.ListN.{length}
use borrow.Author.Tests.{leb-true}
use Rattle.facts.specs.Choice.{pick}
use Rattle.facts.proofs.Choice.{pick_cases, and_left, and_right}
use Rattle.facts.proofs.Over.{length-over}
use Rattle.wire.specs.Reel.{pairs_of}
use Rattle.tape.specs.Writable.{are_cells, is_writable}
use Rattle.tape.specs.Tape.{tape_of}
use Rattle.tape.specs.Programme.{Cue, show, clear, wait, Showable, IsChannel, AreFair}
use Rattle.steps.specs.Take.{Take, blank, frame_count_of, Went, fitting_of, is_kept, timed_of, cells_of, is_place, row_at, typed_of, wrong_row_of, put_of, after_show_of, after_clear_of, after_wait_of, show_of, clear_of, wait_of, switch_of}

pub record Keeps (t : Take) : Type 0 where
  pub room : frame_count_of t ≤ 16000
  pub size : length t.screen ≡ 960
  pub own : IsChannel t.channel
  pub fair : AreFair t.cues

fair_then : (cs ds : List Cue) → AreFair cs → AreFair ds → AreFair (cs ++ ds)
fair_then [] ds f g = g
fair_then (c ∷ more) ds f g = (f.0, fair_then more ds f.1 g)

abbrev To : Went → Type 0
To w = Keeps w.to

module _ (t : Take) (s : Keeps t) where
  fitting_keeps : (next : Take) → (frame_count_of next ≤ 16000 → Keeps next) → To (fitting_of t next)
  fitting_keeps next f = pick_cases To (leb (frame_count_of next) 16000) (λ e. f (leb-true (frame_count_of next) 16000 e)) (λ e. s)

  timed_keeps : (frame earliest : ℕ) (next : Take) → (frame_count_of next ≤ 16000 → Keeps next) → To (timed_of t frame earliest next)
  timed_keeps frame earliest next f = pick_cases To (is_kept frame earliest) (λ e. fitting_keeps next f) (λ e. s)

  pub put_keeps : (row column pen : ℕ) (codes : List ℕ) → To (put_of t row column pen codes)
  unfolding put_of typed_of
  put_keeps row column pen codes =
      let wrong = pick (is_place row column (length codes)) (wrong_row_of (typed_of t.screen row column pen codes) (row_at row)) 2 in
      pick_cases To (eqb wrong 0)
      (λ e. record { room = s.room; size = length-over t.screen (row_at row + (column - 1) * 2) (cells_of pen codes) ∙ s.size; own = s.own; fair = s.fair }) (λ e. s)

  pub show_keeps : (frame : ℕ) → To (show_of t frame)
  unfolding show_of blank
  show_keeps frame =
      let earliest = frame_count_of t + pairs_of (tape_of t.screen t.channel) - 1 in
      let held = frame - earliest in
      pick_cases To (are_cells t.screen && is_writable t.screen)
      (λ e. timed_keeps frame earliest (after_show_of t held)
      (λ h. let able : Showable t.screen = record { whole = s.size; valid = and_left (are_cells t.screen) (is_writable t.screen) e; writable = and_right (are_cells t.screen) (is_writable t.screen) e } in
      record { room = h; size = refl; own = s.own; fair = fair_then t.cues (show t.screen t.channel held ∷ []) s.fair ((able, s.own), tt) }))
      (λ e. s)

  pub clear_keeps : (frame : ℕ) → To (clear_of t frame)
  unfolding clear_of
  clear_keeps frame =
      let earliest = frame_count_of t + 1 in
      let held = frame - earliest in
      timed_keeps frame earliest (after_clear_of t held)
      (λ h. record { room = h; size = s.size; own = s.own; fair = fair_then t.cues (wait held ∷ clear t.channel ∷ []) s.fair (tt, (s.own, tt)) })

  pub wait_keeps : (frames : ℕ) → To (wait_of t frames)
  unfolding wait_of
  wait_keeps frames =
      fitting_keeps (after_wait_of t frames) (λ h. record { room = h; size = s.size; own = s.own; fair = fair_then t.cues (wait frames ∷ []) s.fair (tt, tt) })

  pub switch_keeps : (number : ℕ) → To (switch_of t number)
  unfolding switch_of
  switch_keeps number =
      pick_cases To t.drawn (λ d. s)
      (λ d. pick_cases To (leb 1 number && leb number 2)
      (λ e. record { room = s.room; size = s.size; own = (leb-true 1 number (and_left (leb 1 number) (leb number 2) e), leb-true number 2 (and_right (leb 1 number) (leb number 2) e)); fair = s.fair })
      (λ e. s))
