-- Wherever a script leads, there is room for the frames, and every cue can be kept. Assumes nothing.
use mathlib.Core.Path.{refl}
use mathlib.Core.Bool.{◌&&◌}
use mathlib.Core.List.{List}
use Prim.Native.Nat.{ℕ, zero, suc, ◌*◌, ◌/◌, ◌%◌}
use native.Mathlib.Omega.{arith}
use lib.Dec.{eqb}
use lib.ListN.{length}
use Rattle.facts.proofs.Choice.{pick_cases}
use Rattle.steps.specs.Take.{Take, blank, Went}
use Rattle.steps.proofs.LawsOfKept.{Keeps, put_keeps, show_keeps, clear_keeps, wait_keeps, switch_keeps}
use Rattle.script.specs.Step.{Step, puts, shows, clears, waits, selects, none, size, step_at}
use Rattle.script.specs.Script.{start_of, step_of, on_of, reached_of, show_last_of, Made, made_of}

start_keeps : Keeps start_of
unfolding blank
start_keeps = record { room = omega arith; size = refl; own = (omega arith, omega arith); fair = tt }

step_keeps : (t : Take) → Keeps t → (s : Step) → Keeps (step_of t s).to
step_keeps t h (puts row column pen codes) = put_keeps t h row column pen codes
step_keeps t h (shows frame) = show_keeps t h frame
step_keeps t h (clears frame) = clear_keeps t h frame
step_keeps t h (waits frames) = wait_keeps t h frames
step_keeps t h (selects number) = switch_keeps t h number
step_keeps t h none = h

abbrev To : Went → Type 0
To w = Keeps w.to

pub reached_keeps : (script : List ℕ) (n : ℕ) → Keeps (reached_of script n).last.to
unfolding reached_of on_of
reached_keeps script zero = start_keeps
reached_keeps script (suc n) =
    let w = (reached_of script n).last in
    pick_cases To (eqb w.wrong 0) (λ e. step_keeps w.to (reached_keeps script n) (step_at script (n * size))) (λ e. reached_keeps script n)

pub made_keeps : (script : List ℕ) → Keeps (made_of script).last.to
unfolding made_of show_last_of
made_keeps script =
    let w = (reached_of script (length script / size)).last in
    let h = reached_keeps script (length script / size) in
    pick_cases (λ (m : Made). To m.last) (eqb (length script % size) 0)
    (λ e. pick_cases To (eqb w.wrong 0 && w.to.drawn) (λ f. show_keeps w.to h 0) (λ f. h)) (λ e. start_keeps)
