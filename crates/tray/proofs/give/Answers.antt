-- `give` meets its contract. Assumes nothing.
use mathlib.Core.Bool.{true}
use mathlib.Core.List.{List, [], ◌∷◌}
use mathlib.Core.Path.{◌≡◌, ap, sym, subst, ◌∙◌}
use native.Mathlib.Omega.{arith}
use Prim.Native.Nat.{ℕ, ◌+◌, ◌*◌, ◌<◌, ◌≤◌}
use lib.ListN.{length}
use borrow.Rule.Slice.PartMut.{mid_len}
use Rattle.facts.specs.Over.{over}
use Rattle.facts.proofs.Over.{length-over}
use Rattle.state.specs.declared.State.{State}
use Rattle.state.specs.State.{Desk, desk}
use Rattle.record.specs.Layout.{read_of, record_of}
use Rattle.valid.proofs.Laws.{is_valid-length}
use Rattle.standing.specs.Acts.{act_of, are_formed}
use Rattle.standing.specs.Calls.{keep_of, replay_of}
use Rattle.standing.proofs.Within.{logged_formed, logged_replayed}
use Rattle.tray.specs.Given.{after_of}
use Rattle.replay.specs.Captions.{count_of, caption_decoder}
use Rattle.replay.proofs.Laws.{step_acts}
use Rattle.tray.proofs.Laws.{cells_of_record}
use Rattle.tray.proofs.give.Goals as goal

-- the act that was logged is the one that is done
replayed : (d log : List ℕ) (acts kind first second : ℕ) {l : List ℕ} → acts * 3 + 3 ≤ length log → l ≡ over log (acts * 3) (kind ∷ first ∷ second ∷ [])
    → replay_of caption_decoder (read_of d) l acts 1 ≡ after_of d kind first second
replayed d log acts kind first second fits e =
    ap (λ (l : List ℕ). replay_of caption_decoder (read_of d) l acts 1) e
    ∙ logged_replayed log acts kind first second fits caption_decoder (read_of d)

-- there is room in the log for one act more
few : {s t : State} → s ≡ t → t.acts < 16000 → s.acts < 16000
few e h = subst (λ (x : State). x.acts < 16000) (sym e) h

fits : {s t : State} {size : ℕ} → s ≡ t → t.acts < 16000 → size ≡ 48000 → s.acts * 3 + 3 ≤ size
fits e h size = let less = few e h in omega arith

pub write_act-requires : goal.write_act-requires
write_act-requires c = fits c.requires.1 c.requires.0.room c.requires.0.log_size

pub replay_in_place-next-requires : goal.replay_in_place-next-requires
replay_in_place-next-requires c =
    let inside = fits c.requires.1 c.requires.0.room c.requires.0.log_size in
    let a = c.args in
    let e = c.write_act.ensures in
    let size : length c.write_act.new.log ≡ length a.log.now =
    ap length e ∙ length-over a.log.now (a.state.acts * 3) (a.act.kind ∷ a.act.first ∷ a.act.second ∷ []) in
    let formed = logged_formed a.log.now a.state.acts a.act.kind a.act.first a.act.second inside c.requires.2 in
    let less = few c.requires.1 c.requires.0.room in
    (c.requires.0.valid, c.requires.1, omega arith, omega (arith, size, inside), omega arith, subst (λ (l : List ℕ). are_formed l a.state.acts 1 ≡ true) (sym e) formed)

pub slice_bounds-keep-end : goal.slice_bounds-keep-end
slice_bounds-keep-end c =
    omega (arith, is_valid-length c.args.desk.now c.requires.0.valid)

pub keep-requires : goal.keep-requires
keep-requires c =
    let inside = fits c.requires.1 c.requires.0.room c.requires.0.log_size in
    let a = c.args in
    let next = ap (λ (d : Desk). d.state.acts) (replayed a.desk.now a.log.now a.state.acts a.act.kind a.act.first a.act.second inside c.write_act.ensures) in
    let acts : c.replay_in_place-next.result.acts ≡ count_of (read_of a.desk.now) + 1 =
    ap (λ (x : State). x.acts) c.replay_in_place-next.ensures.1 ∙ next ∙ step_acts (read_of a.desk.now) (act_of a.act.kind a.act.first a.act.second) in
    let less = c.requires.0.room in
    let size = is_valid-length a.desk.now c.requires.0.valid in
    let m = mid_len 64 1984 c.replay_in_place-next.new.desk (omega arith) in
    (omega (arith, acts), omega (arith, acts, less), omega (arith, c.requires.0.tray_size), m)

pub returns : goal.returns
returns c =
    let inside = fits c.requires.1 c.requires.0.room c.requires.0.log_size in
    let after : Desk = let a = c.args in after_of a.desk.now a.act.kind a.act.first a.act.second in
    let a = c.args in
    let e = replayed a.desk.now a.log.now a.state.acts a.act.kind a.act.first a.act.second inside c.write_act.ensures in
    let q = c.replay_in_place-next in
    let next : q.result ≡ after.state = q.ensures.1 ∙ ap (λ (d : Desk). d.state) e in
    let decoded : q.new.desk ≡ record_of after = q.ensures.0 ∙ ap record_of e in
    let size = is_valid-length a.desk.now c.requires.0.valid in
    let cells = cells_of_record after {bs = q.new.desk} (omega arith) decoded in
    record {
      counted = ap (λ (x : State). x.acts) next;
      decoded = decoded;
      logged = c.write_act.ensures ∙ ap (λ (x : State). over a.log.now (x.acts * 3) (a.act.kind ∷ a.act.first ∷ a.act.second ∷ [])) c.requires.1;
      kept = c.keep.ensures ∙ (λ i. keep_of caption_decoder a.tray.now (next i).acts (record_of (desk (next i) (cells i))));
    }
