-- From an act on the three buffers to the call that gave it, and the calls that only look. Assumes nothing.
use mathlib.Core.Path.{◌≡◌, refl, ap, sym, ◌∙◌}
use mathlib.Core.Bool.{Bool, true, false, ◌&&◌}
use mathlib.Core.List.{List, [], ◌∷◌}
use Prim.Native.Nat.{ℕ, ◌-◌, ◌*◌, ◌<◌}
use borrow.Author.Tests.{lt-ltb}
use lib.Dec.{eqb, leb, ltb}
use Rattle.facts.specs.Choice.{pick}
use Rattle.facts.specs.Over.{over}
use Rattle.decode.specs.Step.{taken_of}
use Rattle.record.specs.Layout.{read_of, record_of}
use Rattle.valid.specs.Valid.{is_valid}
use Rattle.standing.specs.Acts.{Act, pair, select, is_channel, is_allowed, kind_of, first_of, second_of, entry_of, act_of, is_formed}
use Rattle.standing.specs.Calls.{Buffers, three, Given, Outcome, done, need, is_fit, keep_of, open_of, give_of, take_of, acted_of, is_replayable, stepped_of, back_of}
use Rattle.standing.proofs.Ways.{give_done}
use Rattle.replay.specs.Captions.{count_of, caption_decoder}
use Rattle.tray.specs.Given.{Given as Acted}
use Rattle.std.specs.Prelude.{Result, Ok, Err}
use Rattle.desk.specs.declared.Refusal.{Refusal}
use Rattle.desk.specs.declared.Refusal.TheVariants.{WrongLength, NoSuch, Full, TooFar, Invalid}
use Rattle.desk.specs.Numbers.{given}

and_true : (b : Bool) → (b && true) ≡ b
and_true true = refl
and_true false = refl

is_formed_own : (a : Act) → is_formed (kind_of a) (first_of a) (second_of a) ≡ is_allowed a
unfolding is_formed
is_formed_own (pair x y) = refl
is_formed_own (select c) = and_true (is_channel c)

is_formed_entry : (kind first second : ℕ) (a : Act) → entry_of a ≡ kind ∷ first ∷ second ∷ [] → is_formed kind first second ≡ is_allowed a
is_formed_entry kind first second a e =
    let k : kind ≡ kind_of a = cc in
    let f : first ≡ first_of a = cc in
    let s : second ≡ second_of a = cc in
    rw (k, f, s) (is_formed_own a)

-- the three bytes of an act are well formed where the act is not refused, and only there
pub allowed_of_formed : (kind first second : ℕ) → entry_of (act_of kind first second) ≡ kind ∷ first ∷ second ∷ [] → {ok : Bool} → ok ≡ is_formed kind first second
    → is_allowed (act_of kind first second) ≡ ok
allowed_of_formed kind first second e same = sym (is_formed_entry kind first second (act_of kind first second) e) ∙ sym same

-- an act that was given by its three bytes is what the paper says of the call
pub given_call : (d l t : List ℕ) (kind first second : ℕ) → entry_of (act_of kind first second) ≡ kind ∷ first ∷ second ∷ []
    → is_fit caption_decoder (three d l t) ≡ true → is_valid d ≡ true → count_of (read_of d) < 16000 → is_allowed (act_of kind first second) ≡ true
    → (r : ℕ) (d₁ l₁ t₁ : List ℕ) → Acted d l t kind first second r d₁ l₁ t₁ → done r (three d₁ l₁ t₁) ≡ give_of caption_decoder (three d l t) (act_of kind first second)
given_call d l t kind first second entry fit valid room allowed r d₁ l₁ t₁ g =
    give_done caption_decoder (three d l t) fit valid (count_of (read_of d)) refl (act_of kind first second) allowed room g.counted g.decoded
    (g.logged ∙ (λ i. over l (count_of (read_of d) * 3) (sym entry i)))
    (g.kept ∙ (λ i. keep_of caption_decoder t (sym g.counted i) (sym g.decoded i)))

-- When each call is refused, by the tests in the paper's order.

module _ (w : Buffers) where
  need_number : (t : Bool) (n : ℕ) (o : Outcome) → (need t n w o).given.number ≡ pick t o.given.number n
  need_number true n o = refl
  need_number false n o = refl

  pub open_of_number : (open_of caption_decoder w.desk w.log w.tray).given.number ≡ pick (is_fit caption_decoder w) 0 1
  unfolding open_of
  open_of_number = need_number (is_fit caption_decoder w) 1 _

  pub give_of_number : (a : Act) → (give_of caption_decoder w a).given.number
      ≡ pick (is_fit caption_decoder w) (pick (is_valid w.desk) (pick (is_allowed a) (pick (ltb (count_of (read_of w.desk)) 16000) 0 3) 2) 6) 1
  unfolding give_of acted_of
  give_of_number a =
      let room = ltb (count_of (read_of w.desk)) 16000 in
      need_number (is_fit caption_decoder w) 1 _
      ∙ ap (λ (n : ℕ). pick (is_fit caption_decoder w) n 1)
      (need_number (is_valid w.desk) 6 _
      ∙ ap (λ (n : ℕ). pick (is_valid w.desk) n 6) (need_number (is_allowed a) 2 _ ∙ ap (λ (n : ℕ). pick (is_allowed a) n 2) (need_number room 3 _)))

  pub back_of_number : (k : ℕ) → (back_of caption_decoder w.desk w.log w.tray k).given.number
      ≡ pick (is_fit caption_decoder w)
      (pick (is_valid w.desk)
      (pick (leb k (count_of (read_of w.desk))) (pick (is_replayable caption_decoder w.log w.tray (count_of (read_of w.desk) - k)) 0 6) 4) 6)
      1
  unfolding back_of stepped_of
  back_of_number k =
      let n = count_of (read_of w.desk) in
      let formed = is_replayable caption_decoder w.log w.tray (n - k) in
      need_number (is_fit caption_decoder w) 1 _
      ∙ ap (λ (x : ℕ). pick (is_fit caption_decoder w) x 1)
      (need_number (is_valid w.desk) 6 _
      ∙ ap (λ (x : ℕ). pick (is_valid w.desk) x 6) (need_number (leb k n) 4 _ ∙ ap (λ (x : ℕ). pick (leb k n) x 4) (need_number formed 6 _)))

  -- What a pair that is not refused leaves in the desk: the record of the desk after the pair rules.
  pub take_of_desk : (x y : ℕ) → is_fit caption_decoder w ≡ true → is_valid w.desk ≡ true → count_of (read_of w.desk) < 16000
      → (take_of caption_decoder w.desk w.log w.tray x y).left.desk ≡ record_of (taken_of (read_of w.desk) x y)
  unfolding give_of acted_of
  take_of_desk x y fit valid room = rw (fit, valid, lt-ltb (count_of (read_of w.desk)) 16000 room)

-- No second answer fits: the number and the value say which answer it was.

answer_of : Given → Result ℕ Refusal
answer_of g =
    pick (eqb g.number 0) (Ok g.value)
    (pick (eqb g.number 1) (Err WrongLength)
    (pick (eqb g.number 2) (Err NoSuch) (pick (eqb g.number 3) (Err Full) (pick (eqb g.number 4) (Err TooFar) (Err Invalid)))))

answer_of_given : (r : Result ℕ Refusal) → answer_of (given r) ≡ r
unfolding answer_of
answer_of_given (Ok value) = refl
answer_of_given (Err WrongLength) = refl
answer_of_given (Err NoSuch) = refl
answer_of_given (Err Full) = refl
answer_of_given (Err TooFar) = refl
answer_of_given (Err Invalid) = refl

pub same_answer : (r q : Result ℕ Refusal) → given r ≡ given q → r ≡ q
same_answer r q e = sym (answer_of_given r) ∙ ap answer_of e ∙ answer_of_given q
