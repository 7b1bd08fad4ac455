-- What is proved of scripts beside the call: frames that are asked for are kept, every reel has room, and every cue can be shown. Assumes nothing.
use mathlib.Core.Path.{◌≡◌, refl}
use mathlib.Core.List.{List}
use Prim.Native.Nat.{ℕ, ◌≤◌}
use native.Mathlib.Omega.{arith}
use lib.ListN.{length}
use Rattle.wire.specs.Reel.{reel_of_raw}
use Rattle.wire.proofs.LawsOfReel.{length-reel_of_raw}
use Rattle.tape.specs.Programme.{AreFair, programme_of}
use Rattle.steps.specs.Take.{Take, frame_count_of, show_of, clear_of}
use Rattle.steps.proofs.LawsOfFrames.{ShownAt, ClearedAt, show_of_at, clear_of_at}
use Rattle.script.specs.Script.{reached_of, made_of, script_reel_of}
use Rattle.script.specs.Make.{room}
use Rattle.script.proofs.LawsOfReached.{reached_keeps, made_keeps}

-- a screen stands from the frame that was asked for
pub show_stands : (t : Take) (frame : ℕ) → (frame ≡ 0 → ⊥) → (show_of t frame).wrong ≡ 0 → ShownAt t frame (show_of t frame).to.cues
show_stands = show_of_at

-- nothing is shown from the frame that was asked for
pub clear_stands : (t : Take) (frame : ℕ) → (frame ≡ 0 → ⊥) → (clear_of t frame).wrong ≡ 0 → ClearedAt t frame (clear_of t frame).to.cues
clear_stands = clear_of_at

-- "16,000 lines"
pub kept_fits : (script : List ℕ) (n : ℕ) → frame_count_of (reached_of script n).last.to ≤ 16000
kept_fits script n = (reached_keeps script n).room

pub made_fits : (script : List ℕ) → frame_count_of (made_of script).last.to ≤ 16000
made_fits script = (made_keeps script).room

pub reel_fits : (script : List ℕ) → length (script_reel_of script) ≤ room
unfolding script_reel_of
reel_fits script = let h = made_fits script in omega (arith, length-reel_of_raw (programme_of (made_of script).last.to.cues))

-- every screen of the programme can be written, and every channel is 1 or 2
pub kept_fair : (script : List ℕ) → AreFair (made_of script).last.to.cues
kept_fair script = (made_keeps script).fair

-- the reel is that of the programme
pub script_reel_of_programme : (script : List ℕ) → script_reel_of script ≡ reel_of_raw (programme_of (made_of script).last.to.cues)
unfolding script_reel_of
script_reel_of_programme script = refl
