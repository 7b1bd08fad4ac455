-- What an act on desk, log and tray asks, and what it leaves in each.
-- Paper 01, "Record, log, tray": the log's three bytes, the slot at each thousand.
-- Assumes nothing.
use Rattle.std.specs.Prelude.{ℕ, ◌*◌, ◌<◌, ◌≡◌, true, List, [], ◌∷◌, length}
use Rattle.facts.specs.Over.{over}
use Rattle.state.specs.State.{Desk}
use Rattle.record.specs.Layout.{record_of, read_of}
use Rattle.valid.specs.Valid.{is_valid}
use Rattle.standing.specs.Acts.{act_of}
use Rattle.standing.specs.Calls.{keep_of}
use Rattle.replay.specs.Captions.{step_of, count_of, caption_decoder}

-- a valid desk with room for an act, and a log and a tray of their lengths
pub record Ready (d l t : List ℕ) : Type 0 where
  pub log_size : length l ≡ 48000
  pub tray_size : length t ≡ 31744
  pub valid : is_valid d ≡ true
  pub room : count_of (read_of d) < 16000

-- the desk after the act
abbrev pub after_of : List ℕ → ℕ → ℕ → ℕ → Desk
after_of d kind first second = step_of (read_of d) (act_of kind first second)

-- the count, and the three buffers after the act
pub record Given (d l t : List ℕ) (kind first second count : ℕ) (d₁ l₁ t₁ : List ℕ) : Type 0 where
  pub counted : count ≡ count_of (after_of d kind first second)
  pub decoded : d₁ ≡ record_of (after_of d kind first second)
  pub logged : l₁ ≡ over l (count_of (read_of d) * 3) (kind ∷ first ∷ second ∷ [])
  pub kept : t₁ ≡ keep_of caption_decoder t (count_of (after_of d kind first second)) (record_of (after_of d kind first second))
