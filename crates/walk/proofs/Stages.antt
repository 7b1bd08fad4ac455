-- What a stage is when something is to come, and when nothing is. Assumes nothing.
use mathlib.Core.Path.{◌≡◌, refl}
use mathlib.Core.Logic.{◌⊎◌, ⊎_elim}
use mathlib.Core.Bool.{true, false}
use Prim.Native.Nat.{ℕ, ◌≤◌}
use native.Mathlib.Omega.{arith}
use borrow.Author.Tests.{ne_eqb}
use Rattle.walk.specs.declared.Stage.{Stage}
use Rattle.walk.specs.declared.Stage.TheVariants.{Header, Frames, End}
use Rattle.walk.specs.Stage.{stage_of, at_header, at_frames, at_end, by_stage, is_live, stages_of}

pub live_cases : (stage : Stage) {G : Type 0} → is_live stage ≡ true → (stage ≡ at_header → G) → (stage ≡ at_frames → G) → G
live_cases Header h f g = f refl
live_cases Frames h f g = g refl
live_cases End h f g = cc

-- what code reads where the header is given
pub frames_live : (stage : Stage) → (stage ≡ at_frames) ⊎ (stage ≡ at_end) → is_live stage ≡ true → stage ≡ at_frames
frames_live stage or h = ⊎_elim (λ e. e) (λ e. let f = rw e at h in cc) or

pub by_stage_end : {A : Type 0} (stage : Stage) (header frames : A) {end : A} → is_live stage ≡ false → by_stage stage header frames end ≡ end
by_stage_end Header header frames h = cc
by_stage_end Frames header frames h = cc
by_stage_end End header frames h = refl

-- with no stage to come, nothing is
pub no_stages : (stage : Stage) → stages_of stage ≡ 0 → is_live stage ≡ false
no_stages Header h = absurd (omega arith)
no_stages Frames h = absurd (omega arith)
no_stages End h = refl

-- by its number a stage behind the second gives nothing
pub stage_ends : (number : ℕ) → 2 ≤ number → is_live (stage_of number) ≡ false
unfolding stage_of
stage_ends number h = rw (ne_eqb number 0 (λ e. omega arith), ne_eqb number 1 (λ e. omega arith)) refl
