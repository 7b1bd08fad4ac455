-- A refused call changes nothing, and a fair run leaves the buffers that its standing acts lead to. Assumes nothing.
use mathlib.Core.Path.{◌≡◌, refl, ap, sym, subst, ◌∙◌}
use mathlib.Core.List.{List, [], ◌∷◌, ◌++◌, map, append_assoc, append-nil}
use mathlib.Core.Bool.{Bool, true, false, false≢true}
use Prim.Native.Nat.{ℕ, ◌+◌, ◌-◌, ◌<◌, ◌≤◌}
use native.Mathlib.Omega.{arith}
use borrow.Author.Tests.{ltb-true, lt-ltb, ne_eqb}
use lib.Dec.{leb, ltb}
use lib.ListN.{length, length-append}
use Rattle.facts.specs.Choice.{pick}
use Rattle.facts.proofs.Choice.{pick_cases}
use Rattle.standing.specs.Acts.{Act, pair, select, is_allowed, Meant}
use Rattle.standing.specs.Decoder.{Decoder, Lawful}
use Rattle.standing.specs.Calls.{Buffers, three, Given, gives, Outcome, refused, is_fit, acted_of, give_of, is_replayable, stepped_of, back_of}
use Rattle.standing.specs.Runs.{Ask, give, back, InBytes, Lent, own, other, Call, call, ask_of, all_own, lent_of, held_of, mine, alone, applied, stands_by, call_of, answered, called, after, Fair, standing, owed, ruled_by, ruled}
use Rattle.standing.specs.Bytes.{buffers_of}
use Rattle.standing.proofs.Acts.{AllMeant, meant_allowed}
use Rattle.standing.proofs.Desks.{Good, good_take, good_snoc}
use Rattle.standing.proofs.Steps.{asked_meant, next_call}

abbrev Refusal : Buffers → Outcome → Type 0
Refusal w o = (o.given.number ≡ 0 → ⊥) → o ≡ refused o.given.number w

held_lent : (b : Lent) (bytes : List ℕ) → held_of b bytes (lent_of b bytes) ≡ bytes
held_lent own bytes = refl
held_lent (other x) bytes = refl

-- each pair among the calls is two bytes
abbrev pub AllBytes : List Ask → Type 0
AllBytes [] = Unit {0}
AllBytes (a ∷ asks) = InBytes a × AllBytes asks

pub meant_bytes : (acts : List Act) → AllMeant acts → AllBytes (map give acts)
meant_bytes [] m = tt
meant_bytes (pair x y ∷ acts) m = (m.0, meant_bytes acts m.1)
meant_bytes (select c ∷ acts) m = (tt, meant_bytes acts m.1)

module _ (D : Decoder) where
  open D use {count, read_of, is_valid, limit}

  -- a call is refused, or its act is done, or its step back, each of these where the tests let it: what holds of them holds of it
  pub call_cases : (w : Buffers) (Q : Ask → Outcome → Type 0) → ((a : Ask) (number : ℕ) → Q a (refused number w))
      → ((a : Act) → is_allowed a ≡ true → count (read_of w.desk) < limit → Q (give a) (acted_of D w a))
      → ((k : ℕ) → is_replayable D w.log w.tray (count (read_of w.desk) - k) ≡ true → Q (back k) (stepped_of D w (count (read_of w.desk) - k)))
      → (a : Ask) → Q a (call_of D w a)
  unfolding call_of give_of back_of
  call_cases w Q shut acted stepped (give a) =
      let n = count (read_of w.desk) in
      let refuse = shut (give a) in
      pick_cases (Q (give a)) (is_fit D w)
      (λ e. pick_cases (Q (give a)) (is_valid w.desk)
      (λ e. pick_cases (Q (give a)) (is_allowed a)
      (λ allowed. pick_cases (Q (give a)) (ltb n limit) (λ room. acted a allowed (ltb-true n limit room)) (λ e. refuse 3)) (λ e. refuse 2)) (λ e. refuse 6)) (λ e. refuse 1)
  call_cases w Q shut acted stepped (back k) =
      let n = count (read_of w.desk) in
      let refuse = shut (back k) in
      pick_cases (Q (back k)) (is_fit D w)
      (λ e. pick_cases (Q (back k)) (is_valid w.desk)
      (λ e. pick_cases (Q (back k)) (leb k n)
      (λ e. pick_cases (Q (back k)) (is_replayable D w.log w.tray (n - k)) (λ there. stepped k there) (λ e. refuse 6)) (λ e. refuse 4)) (λ e. refuse 6)) (λ e. refuse 1)

  -- "A refusal changes no byte."
  pub refusal : (w : Buffers) (a : Ask) → ((call_of D w a).given.number ≡ 0 → ⊥) → call_of D w a ≡ refused (call_of D w a).given.number w
  unfolding acted_of stepped_of
  refusal w = call_cases w (λ (a : Ask) (o : Outcome). Refusal w o) (λ a number r. refl) (λ a allowed room r. absurd (r refl)) (λ k there r. absurd (r refl))

  -- a refused call leaves the own buffers, whatever it is lent
  refused-leaves : (w : Buffers) (c : Call) → ((answered D w c).given.number ≡ 0 → ⊥) → called D w c ≡ w
  refused-leaves w (call a d l t) r =
      let p = refusal (three (lent_of d w.desk) (lent_of l w.log) (lent_of t w.tray)) a r in
      (λ i. three (held_of d w.desk (p i).left.desk) (held_of l w.log (p i).left.log) (held_of t w.tray (p i).left.tray))
      ∙ (λ i. three (held_lent d w.desk i) (held_lent l w.log i) (held_lent t w.tray i))

  -- what a call owes keeps acts that can stand together
  stands_good : (acts : List Act) (a : Ask) → Good D acts → InBytes a → Good D (stands_by (owed D acts a) acts a)
  unfolding owed
  stands_good acts (give a) g b =
      pick_cases (λ (o : Given). Good D (stands_by o acts (give a))) (is_allowed a)
      (λ h. pick_cases (λ (o : Given). Good D (stands_by o acts (give a))) (ltb (length acts) limit)
      (λ r. good_snoc D acts a g (ltb-true (length acts) limit r) (asked_meant a b h))
      (λ r. g))
      (λ h. g)
  stands_good acts (back k) g b =
      pick_cases (λ (o : Given). Good D (stands_by o acts (back k))) (leb k (length acts)) (λ h. good_take D (length acts - k) acts g) (λ h. g)

  -- calls that are lent the own buffers are a fair run
  pub fair_own : (w : Buffers) (asks : List Ask) → AllBytes asks → Fair D w (map mine asks)
  fair_own w [] b = tt
  fair_own w (a ∷ asks) b = (b.0, λ e. refl, fair_own (called D w (mine a)) asks b.1)

  -- acts that can stand together, given alone, all stand
  owed_act : (acts : List Act) (a : Act) → length acts < limit → Meant a → owed D acts (give a) ≡ gives 0 (length acts + 1)
  unfolding owed
  owed_act acts a h m = rw (meant_allowed a m, lt-ltb (length acts) limit h)

  pub ruled_alone : (old acts : List Act) → length old + length acts ≤ limit → AllMeant acts → ruled D old (alone acts) ≡ old ++ acts
  ruled_alone old [] h m = sym (append-nil old)
  ruled_alone old (a ∷ acts) h m =
      ap (λ (o : Given). ruled D (stands_by o old (give a)) (alone acts)) (owed_act old a (omega arith) m.0)
      ∙ ruled_alone (old ++ a ∷ []) acts (omega (arith, length-append old (a ∷ []))) m.1 ∙ append_assoc old (a ∷ []) acts

  -- where a run leads: the acts that stand by its answers stand by the rule, and the buffers are what they lead to
  pub record Led (acts : List Act) (w : Buffers) (cs : List Call) : Type 0 where
    pub by_rule : standing D w acts cs ≡ ruled D acts cs
    pub good : Good D (ruled D acts cs)
    pub bytes : after D w cs ≡ buffers_of D (ruled D acts cs)

  -- a call that is lent another buffer was refused
  other_call : (acts : List Act) (w : Buffers) (c : Call) → Good D acts → w ≡ buffers_of D acts → ((answered D w c).given.number ≡ 0 → all_own c ≡ true)
      → all_own c ≡ false → Led acts w (c ∷ [])
  other_call acts w c g e f h =
      let r : (answered D w c).given.number ≡ 0 → ⊥ = λ n. false≢true (sym h ∙ f n) in
      let rule : ruled_by D acts c ≡ acts = ap (λ (b : Bool). pick b (stands_by (owed D acts (ask_of c)) acts (ask_of c)) acts) h in
      record {
        by_rule = ap (λ (b : Bool). pick b (applied acts (ask_of c)) acts) (ne_eqb (answered D w c).given.number 0 r) ∙ sym rule;
        good = subst (Good D) (sym rule) g;
        bytes = refused-leaves w c r ∙ e ∙ ap (buffers_of D) (sym rule);
      }

  module _ (L : Lawful D) where
    -- a run of one call
    one_call : (acts : List Act) (w : Buffers) (c : Call) → Good D acts → w ≡ buffers_of D acts → InBytes (ask_of c)
        → ((answered D w c).given.number ≡ 0 → all_own c ≡ true) → Led acts w (c ∷ [])
    one_call acts w (call a own own own) g e b f =
        let o = ap (λ (v : Buffers). call_of D v a) e ∙ next_call D L acts g a b in
        record {
          by_rule = ap (λ (p : Outcome). stands_by p.given acts a) o;
          good = stands_good acts a g b;
          bytes = ap (λ (p : Outcome). p.left) o;
        }
    one_call acts w (call a (other x) l t) g e b f = other_call acts w (call a (other x) l t) g e f refl
    one_call acts w (call a own (other x) t) g e b f = other_call acts w (call a own (other x) t) g e f refl
    one_call acts w (call a own own (other x)) g e b f = other_call acts w (call a own own (other x)) g e f refl

    pub leads : (acts : List Act) (w : Buffers) (cs : List Call) → Good D acts → w ≡ buffers_of D acts → Fair D w cs → Led acts w cs
    leads acts w [] g e f = record { by_rule = refl; good = g; bytes = e }
    leads acts w (c ∷ cs) g e f =
        let o = one_call acts w c g e f.0 f.1 in
        let r = leads (ruled_by D acts c) (called D w c) cs o.good o.bytes f.2 in
        record { by_rule = ap (λ (l : List Act). standing D (called D w c) l cs) o.by_rule ∙ r.by_rule; good = r.good; bytes = r.bytes }
