-- `replay` meets its contract. Assumes nothing.
use mathlib.Core.Path.{◌≡◌, ap, sym, subst, ◌∙◌}
use mathlib.Core.List.{List}
use mathlib.Core.Bool.{true}
use Prim.Native.Nat.{ℕ, ◌+◌, ◌-◌, ◌*◌, ◌≤◌, ◌<◌}
use native.Mathlib.Omega.{arith}
use lib.ListN.{length, get_or}
use borrow.Author.Rules.{rules}
use Rattle.standing.proofs.Within.{replay_none, replay_keeps_sound}
use Rattle.standing.specs.Calls.{replay_of}
use Rattle.standing.specs.Acts.{are_formed}
use Rattle.decode.specs.Sound.{SoundDesk}
use Rattle.state.specs.declared.State.{State}
use Rattle.state.specs.State.{Desk, desk}
use Rattle.replay.specs.Captions.{caption_decoder}
use Rattle.replay.proofs.Laws.{caption_decoder_lawful}
use Rattle.replay.proofs.LawsOfReplay.{replay_join, replay_entry}
use Rattle.replay.proofs.replay.Goals as goal

-- a desk that n of the acts lead to is sound and has counted them
sound_at : (start : State) (cells log : List ℕ) (from count : ℕ)
    → SoundDesk (desk start cells) → start.acts + count ≤ 16000 → ((i : ℕ) → get_or log i 0 < 256) → are_formed log from count ≡ true
    → (n : ℕ) (s : State) {after : List ℕ} → n ≤ count → desk s after ≡ replay_of caption_decoder (desk start cells) log from n
    → SoundDesk (desk s after) × (s.acts ≡ start.acts + n)
sound_at start cells log from count sound room bytes formed n s h e =
    let kept = replay_keeps_sound caption_decoder caption_decoder_lawful (desk start cells) log from count sound room bytes formed n h in
    (subst SoundDesk (sym e) kept.0, ap (λ (d : Desk). d.state.acts) e ∙ kept.1)

pub loop-n-init : goal.loop-n-init
loop-n-init c =
    let a = c.args in
    (search rules, search rules, replay_none caption_decoder (desk a.start a.cells.now) a.log.now a.from)

pub step-state-requires : goal.step-state-requires
step-state-requires c =
    let more = c.loop-n-test.true in
    let room : c.args.start.acts + c.args.count ≤ 16000 = c.requires.1 in
    let sound = sound_at c.args.start c.args.cells.now c.args.log.now c.args.from c.args.count c.requires.0 c.requires.1 (λ i. omega (arith, c.type_inv.log i)) c.requires.4 c.loop-n.n c.loop-n.state c.loop-n.invariant.0 c.loop-n.invariant.2 in
    let acts = sound.1 in
    (sound.0, omega (arith, acts, more, room))

pub type_run-state-requires : goal.type_run-state-requires
type_run-state-requires c =
    let a = c.args in
    let more = c.loop-n-test.true in
    let room : a.start.acts + a.count ≤ 16000 = c.requires.1 in
    let whole : (a.from + a.count) * 3 ≤ length a.log.now = c.requires.2 in
    let most : a.from + a.count ≤ 16000 = c.requires.3 in
    let e = replay_entry (desk a.start a.cells.now) a.log.now a.from c.loop-n.n c.at.ensures c.loop-n.invariant.2 c.step-state.ensures in
    let sound = sound_at a.start a.cells.now a.log.now a.from a.count c.requires.0 c.requires.1 (λ i. omega (arith, c.type_inv.log i)) c.requires.4 (c.loop-n.n + 1) c.step-state.result (omega arith) e in
    let acts = sound.1 in
    (sound.0, sym c.is_none_expected.ensures ∙ c.if-is_none_expected.true, omega arith, omega arith, omega arith)

pub overflow_sub-n : goal.overflow_sub-n
overflow_sub-n c = c.type_run-state.ensures.0

pub overflow_add-n-then-is_none_expected : goal.overflow_add-n-then-is_none_expected
overflow_add-n-then-is_none_expected c =
    let most = c.type_run-state.ensures.1 in
    let more = c.loop-n-test.true in
    let few = c.requires.3 in
    omega arith

pub loop-n-smaller-then-is_none_expected : goal.loop-n-smaller-then-is_none_expected
loop-n-smaller-then-is_none_expected c =
    let most = c.type_run-state.ensures.1 in
    let more = c.loop-n-test.true in
    omega arith

pub loop-n-preserved-then-is_none_expected : goal.loop-n-preserved-then-is_none_expected
loop-n-preserved-then-is_none_expected c =
    let a = c.args in
    let d = desk a.start a.cells.now in
    let most = c.type_run-state.ensures.1 in
    let more = c.loop-n-test.true in
    let k = c.type_run-state.result.acts - c.step-state.result.acts in
    let e = replay_entry d a.log.now a.from c.loop-n.n c.at.ensures c.loop-n.invariant.2 c.step-state.ensures in (
      omega arith,
      search rules,
      c.type_run-state.ensures.2
          ∙ ap (λ (x : Desk). replay_of caption_decoder x a.log.now (a.from + (c.loop-n.n + 1)) k) e
          ∙ replay_join d a.log.now a.from (c.loop-n.n + 1) k,
    )

pub loop-n-preserved : goal.loop-n-preserved
loop-n-preserved c =
    let a = c.args in
    let more = c.loop-n-test.true in
    (omega arith, search rules, replay_entry (desk a.start a.cells.now) a.log.now a.from c.loop-n.n c.at.ensures c.loop-n.invariant.2 c.step-state.ensures)

pub returns : goal.returns
returns c =
    let a = c.args in
    let e : c.loop-n.n ≡ a.count = omega arith in
    c.loop-n.invariant.2 ∙ ap (replay_of caption_decoder (desk a.start a.cells.now) a.log.now a.from) e
