-- `type_run` meets its contract. Assumes nothing.
use mathlib.Core.Path.{◌≡◌, refl, ap, ◌∙◌}
use native.Mathlib.Omega.{arith}
use borrow.Author.Rules.{rules}
use Rattle.cell.specs.declared.Cursor.{Cursor}
use Rattle.state.specs.declared.State.{State}
use Rattle.state.specs.State.{desk}
use Rattle.text.specs.Typed.{typed_of}
use Rattle.text.proofs.Laws.{typed_of_none}
use Rattle.standing.proofs.Within.{replay_none}
use Rattle.replay.specs.Captions.{caption_decoder}
use Rattle.replay.proofs.LawsOfReplay.{run_typed, run_ended, is_text_act_facts}
use Rattle.replay.proofs.type_run.Goals as goal

pub cursor-cursor-requires : goal.cursor-cursor-requires
cursor-cursor-requires c = c.requires.0.captions.ranged

pub loop-n-init : goal.loop-n-init
loop-n-init c =
    let a = c.args in
    let own = ap (λ (at : Cursor). typed_of a.start at 0) c.cursor-cursor.ensures.0 ∙ typed_of_none a.start c.requires.1 in
    record {
      size = refl;
      placed = c.cursor-cursor.ensures.1;
      typed = ap (λ (x : State). desk x a.cells.now) own ∙ replay_none caption_decoder (desk a.start a.cells.now) a.log.now a.from;
    }

pub returns-then-not-is_text : goal.returns-then-not-is_text
returns-then-not-is_text c =
    let a = c.args in
    run_ended (desk a.start a.cells.now) a.log.now a.from a.start c.typed.result c.loop-n.cursor c.loop-n.n a.count c.typed.ensures (omega arith) c.loop-n.invariant.typed

pub type_text-cursor-requires : goal.type_text-cursor-requires
type_text-cursor-requires c =
    let text = is_text_act_facts c.at-act.result c.is_text.ensures c.if-not-is_text.false in
    let sound = c.requires.0.captions in
    (sound.ranged, c.loop-n.invariant.size ∙ sound.cells.size, c.loop-n.invariant.placed, text.1)

pub loop-n-preserved : goal.loop-n-preserved
loop-n-preserved c =
    let a = c.args in
    let n = c.loop-n.n in
    let text = is_text_act_facts c.at-act.result c.is_text.ensures c.if-not-is_text.false in
    let e = c.type_text-cursor.ensures in
    record {
      size = search rules;
      placed = e.0;
      typed = run_typed (desk a.start a.cells.now) a.log.now a.from a.start n c.loop-n.cursor c.type_text-cursor.result c.at-act.result c.at-act.ensures text.0 c.loop-n.invariant.typed (e.1 n);
    }

pub returns : goal.returns
returns c =
    let a = c.args in
    let e : c.loop-n.n ≡ a.count = omega arith in
    let typed = rw e at c.loop-n.invariant.typed in
    run_ended (desk a.start a.cells.now) a.log.now a.from a.start c.typed-2.result c.loop-n.cursor a.count a.count c.typed-2.ensures (omega arith) typed
