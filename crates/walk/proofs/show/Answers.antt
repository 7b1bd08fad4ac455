-- `show` meets its contract. Assumes nothing.
use mathlib.Core.List.{List}
use mathlib.Core.Bool.{true, false}
use mathlib.Core.Path.{◌≡◌, sym, ap, ◌∙◌}
use Prim.Native.Nat.{ℕ, ◌+◌}
use native.Mathlib.Omega.{arith}
use lib.Seq.{length-take-le}
use lib.ListN.{take, length}
use Rattle.lines.proofs.Laws.{put_nothing, put_as}
use Rattle.runs.proofs.Laws.{same_screen_of-is_same}
use Rattle.walk.specs.Stage.{at_frames}
use Rattle.walk.specs.Walk.{place, walk, room}
use Rattle.walk.proofs.LawsOfSteps.{shown_place, shown_text}
use Rattle.walk.proofs.show.Goals as goal

pub returns-then-same_screen : goal.returns-then-same_screen
returns-then-same_screen c =
    let a = c.args in
    let p = place a.w a.cells.now a.held.now in
    let cells = c.pair-state.new.cells in
    let n : length (take 960 cells) ≡ 960 = length-take-le 960 cells (omega arith) in
    let t = sym (same_screen_of-is_same (take 960 cells) a.held.now n (omega arith)) ∙ sym c.same_screen.ensures ∙ c.if-same_screen.true in
    (shown_place p a.first a.second true c.pair-state.ensures t, put_nothing a.out.now room (shown_text p a.first a.second true c.pair-state.ensures t))

pub returns : goal.returns
returns c =
    let a = c.args in
    let p = place a.w a.cells.now a.held.now in
    let cells = c.pair-state.new.cells in
    let n : length (take 960 cells) ≡ 960 = length-take-le 960 cells (omega arith) in
    let u = sym (same_screen_of-is_same (take 960 cells) a.held.now n (omega arith)) ∙ sym c.same_screen.ensures ∙ c.if-same_screen.false in (
      ap (λ (h : List ℕ). place (walk at_frames (a.w.frame + 1) (a.w.frame + 1) c.pair-state.result) cells h) c.copy_from_slice.ensures.after
          ∙ shown_place p a.first a.second false c.pair-state.ensures u,
      put_as (sym (shown_text p a.first a.second false c.pair-state.ensures u)) (omega arith) c.put_lines-n.ensures,
    )
