-- The stages of a walk over a reel: what it gives next, and whether that is anything.
-- Paper 01, "Reel and register": the header comes before all other lines, and the end of the reel after its frames.
-- Assumes nothing.
use Rattle.std.specs.Prelude.{Bool, true, false, ℕ, eqb}
use Rattle.facts.specs.Choice.{pick}
use Rattle.walk.specs.declared.Stage.{Stage}
use Rattle.walk.specs.declared.Stage.TheVariants.{Header, Frames, End}

-- the header is to come, frames are to come, all is given
abbrev pub at_header : Stage
at_header = Header

abbrev pub at_frames : Stage
at_frames = Frames

abbrev pub at_end : Stage
at_end = End

-- the stage that a number says
unfoldable pub stage_of : ℕ → Stage
stage_of number = pick (eqb number 0) at_header (pick (eqb number 1) at_frames at_end)

-- one for each stage
abbrev pub by_stage {ℓ} : {A : Type ℓ} → Stage → A → A → A → A
by_stage Header header frames end = header
by_stage Frames header frames end = frames
by_stage End header frames end = end

-- whether the header is to come
abbrev pub is_header : Stage → Bool
is_header stage = by_stage stage true false false

-- whether anything is to come
abbrev pub is_live : Stage → Bool
is_live stage = by_stage stage true true false

-- how many stages are to come
abbrev pub stages_of : Stage → ℕ
stages_of stage = by_stage stage 2 1 0
