-- Acts replayed in two parts, and pairs of text replayed with the style's cursor in hand. Assumes nothing.
use mathlib.Core.Path.{◌≡◌, ap, sym, ◌∙◌}
use mathlib.Core.Bool.{Bool, true}
use mathlib.Core.List.{List}
use Prim.Native.Nat.{ℕ, zero, suc, ◌+◌, ◌-◌, ◌≤◌}
use native.Mathlib.Omega.{arith}
use lib.Dec.{eqb}
use borrow.Author.Tests.{eqb-true}
use Rattle.facts.proofs.Choice.{and_left, and_right}
use Rattle.cell.specs.declared.Cursor.{Cursor}
use Rattle.state.specs.declared.State.{State}
use Rattle.state.specs.State.{Desk, desk}
use Rattle.decode.specs.Step.{taken_of}
use Rattle.text.specs.Typed.{is_text, typed_of}
use Rattle.standing.specs.Acts.{act_of, at_act}
use Rattle.standing.specs.Calls.{replay_of}
use Rattle.standing.proofs.Within.{replay_more}
use Rattle.replay.specs.Captions.{step_of, caption_decoder}
use Rattle.replay.specs.declared.Entry.{Entry}
use Rattle.replay.specs.Entries.{entry}
use Rattle.replay.specs.Text.{is_text_act}
use Rattle.replay.proofs.Laws.{act_of_pair, of_entry}

module _ (d : Desk) (l : List ℕ) (from : ℕ) where
  abbrev replayed : ℕ → Desk
  replayed n = replay_of caption_decoder d l from n

  -- what is replayed in two parts is replayed at once
  pub replay_join : (a b : ℕ) → replay_of caption_decoder (replayed a) l (from + a) b ≡ replayed (a + b)
  unfolding replay_of
  replay_join a zero = let e : a ≡ a + 0 = omega arith in ap replayed e
  replay_join a (suc b) =
      let e : suc (a + b) ≡ a + suc b = omega arith in
      let f : from + a + b ≡ from + (a + b) = omega arith in
      (λ i. step_of (replay_join a b i) (at_act act_of l (f i))) ∙ ap replayed e

  -- one act more, as the log has it
  pub replay_entry : (n : ℕ) {e : Entry} {before after : Desk} → e ≡ at_act entry l (from + n) → before ≡ replayed n
      → after ≡ step_of before (act_of e.kind e.first e.second) → after ≡ replayed (n + 1)
  replay_entry n {before = before} is p q = replay_more caption_decoder d l from n p (q ∙ ap (step_of before) (of_entry act_of l (from + n) is))

  -- one pair of text more, which takes the style's cursor from c to b
  pub run_typed : (s : State) (n : ℕ) (c b : Cursor) (e : Entry) {cells next : List ℕ} → e ≡ at_act entry l (from + n) → e.kind ≡ 1
      → desk (typed_of s c n) cells ≡ replayed n → desk (typed_of s b (n + 1)) next ≡ taken_of (desk (typed_of s c n) cells) e.first e.second
      → desk (typed_of s b (n + 1)) next ≡ replayed (n + 1)
  run_typed s n c b e {cells} is kind p q = replay_entry n is p (q ∙ ap (step_of (desk (typed_of s c n) cells)) (act_of_pair e.kind e.first e.second kind))

  -- n pairs of text, and no more than `count`: the state behind them has counted them
  pub run_ended : (start s : State) (c : Cursor) (n count : ℕ) {cells : List ℕ} → s ≡ typed_of start c n → n ≤ count → desk (typed_of start c n) cells ≡ replayed n
      → (start.acts ≤ s.acts) × (s.acts ≤ start.acts + count) × (desk s cells ≡ replayed (s.acts - start.acts))
  run_ended start s c n count {cells} e few p =
      let acts = ap (λ (x : State). x.acts) e in
      let same : n ≡ s.acts - start.acts = omega arith in
      (omega arith, omega arith, ap (λ (x : State). desk x cells) e ∙ p ∙ ap replayed same)

-- what the test of an act says
pub is_text_act_facts : (e : Entry) {told : Bool} → told ≡ is_text_act e.kind e.first e.second → told ≡ true → (e.kind ≡ 1) × (is_text e.first ≡ true)
is_text_act_facts e same t =
    let both = sym same ∙ t in
    (eqb-true e.kind 1 (and_left (eqb e.kind 1) (is_text e.first) both), and_right (eqb e.kind 1) (is_text e.first) both)
