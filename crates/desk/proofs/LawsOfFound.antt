-- What every call asks first: what is known where it goes on, and which refusal it is where it does not. Assumes nothing.
use mathlib.Core.Path.{◌≡◌, refl, ap, sym, subst, ◌∙◌}
use mathlib.Core.Bool.{Bool, true, false}
use mathlib.Core.List.{List}
use Prim.Native.Nat.{ℕ, ◌≤◌}
use lib.ListN.{length}
use Rattle.std.specs.Prelude.{Ok, Err}
use Rattle.facts.specs.Choice.{pick}
use Rattle.state.specs.declared.State.{State}
use Rattle.record.specs.Layout.{state_of}
use Rattle.valid.specs.Valid.{is_valid}
use Rattle.valid.proofs.Laws.{is_valid_sound}
use Rattle.standing.specs.Acts.{Act}
use Rattle.standing.specs.Calls.{Buffers, three, refused, is_fit, give_of, back_of}
use Rattle.standing.proofs.Ways.{Sized, is_sized_sizes}
use Rattle.replay.specs.Captions.{caption_decoder}
use Rattle.desk.specs.declared.Refusal.{Refusal}
use Rattle.desk.specs.declared.Refusal.TheVariants.{WrongLength, Invalid}
use Rattle.desk.specs.Numbers.{number_of, ready_of}

-- what is lent is sized, and the desk valid: its state is what was found
pub record Found (sized : Bool) (d : List ℕ) (s : State) : Type 0 where
  pub fits : sized ≡ true
  pub valid : is_valid d ≡ true
  pub read : s ≡ state_of d
  pub high : s.acts ≤ 16000

pub found : {sized : Bool} {test : Bool} {d : List ℕ} {s : State} → sized ≡ test → Ok s ≡ ready_of sized d → Found test d s
unfolding ready_of
found {sized} {test} {d} {s} same = go sized (is_valid d) refl refl
  where
    go : (a b : Bool) → a ≡ sized → b ≡ is_valid d → Ok s ≡ pick a (pick b (Ok (state_of d)) (Err Invalid)) (Err WrongLength) → Found test d s
    go true true p q e =
        let read : s ≡ state_of d = cc in
        record { fits = sym same ∙ sym p; valid = sym q; read = read; high = subst (λ (s : State). s.acts ≤ 16000) (sym read) (is_valid_sound d (sym q)).acts }
    go true false p q e = cc
    go false b p q e = cc

-- f n is the refusal with number n: whatever would come next, such tests give that
pub refused_first : {A : Type 0} (f : ℕ → A) (next : A) (d : List ℕ) {sized : Bool} {test : Bool} {r : Refusal} → sized ≡ test → Err r ≡ ready_of sized d
    → f (number_of (Err r)) ≡ pick test (pick (is_valid d) next (f 6)) (f 1)
unfolding ready_of
refused_first f next d {sized} {test} {r} same e = go sized (is_valid d) e ∙ ap (λ (t : Bool). pick t (pick (is_valid d) next (f 6)) (f 1)) same
  where
    go : (a b : Bool) → Err r ≡ pick a (pick b (Ok (state_of d)) (Err Invalid)) (Err WrongLength) → f (number_of (Err r)) ≡ pick a (pick b next (f 6)) (f 1)
    go true true e = cc
    go true false e = cc
    go false b e = cc

module _ (w : Buffers) {sized : Bool} {r : Refusal} (same : sized ≡ is_fit caption_decoder w) (e : Err r ≡ ready_of sized w.desk) where
  pub give_refused : (a : Act) → refused (number_of (Err r)) w ≡ give_of caption_decoder w a
  unfolding give_of
  give_refused a = refused_first (λ (n : ℕ). refused n w) _ _ same e

  pub back_refused : (k : ℕ) → refused (number_of (Err r)) w ≡ back_of caption_decoder w.desk w.log w.tray k
  unfolding back_of
  back_refused k = refused_first (λ (n : ℕ). refused n w) _ _ same e

-- the lengths of three buffers that fit
pub lent_sized : (d l t : List ℕ) → is_fit caption_decoder (three d l t) ≡ true → Sized caption_decoder (length d) (length l) (length t)
lent_sized d l t fit = is_sized_sizes caption_decoder (length d) (length l) (length t) fit
