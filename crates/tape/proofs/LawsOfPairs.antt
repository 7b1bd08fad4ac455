-- What the pairs of an item do to a desk: a control pair sent twice acts once, whatever was expected; characters are written. Assumes nothing.
use mathlib.Core.Path.{◌≡◌, refl, sym, ap, ◌∙◌}
use mathlib.Core.Bool.{Bool, true, false, ◌&&◌}
use mathlib.Core.List.{List}
use Prim.Native.Nat.{ℕ, ◌<◌, ◌≤◌}
use native.Mathlib.Omega.{arith}
use lib.Dec.{eqb, ltb}
use borrow.Author.Tests.{lt-ltb, le-ltb, eq-eqb, ne_eqb, eqb-true}
use Rattle.facts.specs.Choice.{pick}
use Rattle.facts.proofs.Choice.{and_left, and_right, and_both, pick_cases}
use Rattle.wire.specs.Byte.{is_good, low_seven}
use Rattle.codes.specs.Codes.{code_of, channel_of}
use Rattle.codes.specs.Assigned.{is_unassigned}
use Rattle.state.specs.State.{Captions, Desk, desk}
use Rattle.cell.specs.Cursor.{after_write_of}
use Rattle.state.specs.Style.{is_ready, cursor_of}
use Rattle.state.proofs.Laws.{is_ready-with_cursor}
use Rattle.typing.specs.Typing.{write_of}
use Rattle.acts.specs.Act.{act_of}
use Rattle.decode.specs.Pair.{captions_of, with_captions, told, cleared_of, type_of, as_text_of, control_of, rule_three_of, rule_four_of, pair_of}
use Rattle.decode.specs.Step.{counted, taken_of}
use Rattle.wire.specs.Byte.{sent_of}
use Rattle.wire.proofs.LawsOfSent.{is_good-sent_of, low_seven-sent_of}

-- what is followed of a desk: its channel is selected, and these are its captions; whatever it expects
pub record Follows (channel : ℕ) (c : Captions) (d : Desk) : Type 0 where
  pub selected : d.state.selected ≡ channel
  pub captions : captions_of d ≡ c

-- and the stream is on that channel
pub record Hears (channel : ℕ) (c : Captions) (d : Desk) : Type 0 where
  pub follows : Follows channel c d
  pub stream : d.state.stream ≡ channel

-- a control pair of a channel
pub record Control (channel a b : ℕ) : Type 0 where
  pub first_low : 0x10 ≤ a
  pub first_high : a < 0x20
  pub second_low : 0x20 ≤ b
  pub second_high : b < 128
  pub own : channel_of a ≡ channel
  pub assigned : is_unassigned (code_of a b) ≡ false

-- a desk d, e behind one control pair, and f behind its repeat
pub record Twice (channel a b : ℕ) (c : Captions) (d e f : Desk) : Type 1 where
  pub hears : Hears channel (act_of c (code_of a b)) f
  -- the first acts, or the second
  pub between : (P : List ℕ → Type 0) → P d.cells → P f.cells → P e.cells
  -- then none is expected, or the pair
  pub expects : (P : ℕ → ℕ → Type 0) → P 0 0 → P a b → P f.state.first f.state.second
  -- a pair that is not expected acts at once, and then none is expected
  pub at_once : (a ≡ d.state.first → b ≡ d.state.second → ⊥) → (e.cells ≡ f.cells) × (f.state.second ≡ 0)

module _ (channel a b : ℕ) (k : Control channel a b) where
  abbrev x : ℕ
  x = sent_of a

  abbrev y : ℕ
  y = sent_of b

  abbrev is_repeat : Desk → Bool
  is_repeat d = eqb a d.state.first && eqb b d.state.second

  -- rule 3, for a pair that is assigned: it is the expected one, or it acts
  pub pair_control : (d : Desk) → pair_of d (sent_of a) (sent_of b) ≡ pick (is_repeat d) (cleared_of d) (control_of (cleared_of d) a b)
  unfolding pair_of rule_three_of
  pair_control d =
      let ga = is_good-sent_of a in
      let gb = is_good-sent_of b in
      let al = k.first_low in
      let au = k.first_high in
      let bl = k.second_low in
      let bu = k.second_high in
      let la = low_seven-sent_of a (omega arith) in
      let lb = low_seven-sent_of b bu in
      simp (ga, gb, la, lb, le-ltb a 0x10 al, lt-ltb a 0x20 au, le-ltb b 0x20 bl, k.assigned)

  -- the desk after the act
  control_acts : (d : Desk) → d.state.selected ≡ channel → control_of (cleared_of d) a b
      ≡ with_captions (desk (told d.state channel a b) d.cells) (act_of (captions_of d) (code_of a b))
  unfolding control_of cleared_of
  control_acts d s =
      let e = k.own in
      rw (e, eq-eqb channel d.state.selected (sym s))

  -- the expected pair does nothing, and is expected no more
  pub pass_over : (d : Desk) → is_repeat d ≡ true → taken_of d (sent_of a) (sent_of b) ≡ counted (cleared_of d)
  unfolding taken_of
  pass_over d t = ap counted (pair_control d ∙ rw t)

  -- the desk after the act, which expects the pair
  abbrev acted_of : Desk → Desk
  acted_of d = counted (with_captions (desk (told d.state channel a b) d.cells) (act_of (captions_of d) (code_of a b)))

  -- any other acts, and is expected from now on
  act_now : (d : Desk) → d.state.selected ≡ channel → is_repeat d ≡ false → taken_of d (sent_of a) (sent_of b) ≡ acted_of d
  unfolding taken_of
  act_now d s t = ap counted (pair_control d ∙ rw t (control_acts d s))

  -- "every control pair twice": it acts once, whatever was expected
  pub twice : (c : Captions) (d : Desk) → Follows channel c d
      → Twice channel a b c d (taken_of d (sent_of a) (sent_of b)) (taken_of (taken_of d (sent_of a) (sent_of b)) (sent_of a) (sent_of b))
  unfolding cleared_of
  twice c d h = go (is_repeat d) refl
    where
      done : (e : Desk) → e.state.selected ≡ channel → captions_of e ≡ act_of (captions_of d) (code_of a b) → e.state.stream ≡ channel → Hears channel (act_of c (code_of a b)) e
      done e s f t = record { follows = record { selected = s; captions = f ∙ ap (λ (x : Captions). act_of x (code_of a b)) h.captions }; stream = t }

      go : (t : Bool) → is_repeat d ≡ t → Twice channel a b c d (taken_of d (sent_of a) (sent_of b)) (taken_of (taken_of d (sent_of a) (sent_of b)) (sent_of a) (sent_of b))
      go true t =
          let low = k.first_low in
          let none : a ≡ 0 → ⊥ = λ e. omega arith in
          rw (pass_over d t, act_now (counted (cleared_of d)) h.selected (ap (λ (u : Bool). u && eqb b 0) (ne_eqb a 0 none)))
          (record {
            hears = done (acted_of (counted (cleared_of d))) h.selected refl refl;
            between = λ P p q. p;
            expects = λ P p q. q;
            at_once = λ other.
                absurd (other (eqb-true a d.state.first (and_left (eqb a d.state.first) (eqb b d.state.second) t))
                (eqb-true b d.state.second (and_right (eqb a d.state.first) (eqb b d.state.second) t)));
          })
      go false t =
          rw (act_now d h.selected t, pass_over (acted_of d) (and_both (eq-eqb a a refl) (eq-eqb b b refl)))
          (record {
            hears = done (counted (cleared_of (acted_of d))) h.selected refl refl;
            between = λ P p q. q;
            expects = λ P p q. p;
            at_once = λ other. (refl, refl);
          })

-- Characters.

pub is_ready-write_of : (c : Captions) (code : ℕ) → is_ready (write_of c code).mode ≡ is_ready c.mode
unfolding write_of
is_ready-write_of c code = is_ready-with_cursor c.mode (after_write_of (cursor_of c.mode))

-- writing tells nothing of what is expected
type_of_second : (d : Desk) (code : ℕ) → (type_of d code).state.second ≡ d.state.second
unfolding type_of
type_of_second d code =
    pick_cases (λ (e : Desk). e.state.second ≡ d.state.second) (eqb d.state.stream d.state.selected && is_ready d.state.mode) (λ t. refl) (λ t. refl)

as_text_of_second : (d : Desk) (y : ℕ) → (as_text_of d y).state.second ≡ d.state.second
unfolding as_text_of
as_text_of_second d y =
    pick_cases (λ (e : Desk). e.state.second ≡ d.state.second) (is_good y)
    (λ t. pick_cases (λ (e : Desk). e.state.second ≡ d.state.second) (ltb (low_seven y) 0x20) (λ u. refl) (λ u. type_of_second d (low_seven y))) (λ t. type_of_second d 0x7f)

module _ (channel : ℕ) where
  -- the gate is open
  types : (c : Captions) (d : Desk) (code : ℕ) → Hears channel c d → is_ready c.mode ≡ true → Hears channel (write_of c code) (type_of d code)
  unfolding type_of
  types c d code h r =
      let same = eq-eqb d.state.stream d.state.selected (h.stream ∙ sym h.follows.selected) in
      let ready = ap (λ (x : Captions). is_ready x.mode) h.follows.captions ∙ r in
      rw (same, ready) (record { follows = record { selected = h.follows.selected; captions = ap (λ (x : Captions). write_of x code) h.follows.captions }; stream = h.stream })

  clears : (c : Captions) (d : Desk) → Hears channel c d → Hears channel c (cleared_of d)
  unfolding cleared_of
  clears c d h = record { follows = record { selected = h.follows.selected; captions = h.follows.captions }; stream = h.stream }

  counts : (c : Captions) (d : Desk) → Hears channel c d → Hears channel c (counted d)
  counts c d h = record { follows = record { selected = h.follows.selected; captions = h.follows.captions }; stream = h.stream }

  module _ (c : Captions) (d : Desk) (h : Hears channel c d) (r : is_ready c.mode ≡ true) (a : ℕ) (low : 0x20 ≤ a) (high : a < 128) where
    -- rule 4: the first is written, then the second is text
    pair_text : (y : ℕ) → taken_of d (sent_of a) y ≡ counted (as_text_of (type_of (cleared_of d) a) y)
    unfolding taken_of pair_of rule_four_of
    pair_text y =
        let la = low_seven-sent_of a high in
        simp (is_good-sent_of a, la, le-ltb a 0x10 (omega arith), le-ltb a 0x20 low)

    -- then none is expected
    pub text_second : (y : ℕ) → (taken_of d (sent_of a) y).state.second ≡ 0
    unfolding cleared_of
    text_second y = rw (pair_text y) (as_text_of_second (type_of (cleared_of d) a) y ∙ type_of_second (cleared_of d) a)

    -- a character, with a null beside it
    pub one : Hears channel (write_of c a) (taken_of d (sent_of a) (sent_of 0))
    unfolding as_text_of
    one = rw (pair_text (sent_of 0), is_good-sent_of 0, low_seven-sent_of 0 (omega arith)) (counts _ _ (types c (cleared_of d) a (clears c d h) r))

    -- two characters
    pub two : (b : ℕ) → 0x20 ≤ b → b < 128 → Hears channel (write_of (write_of c a) b) (taken_of d (sent_of a) (sent_of b))
    unfolding as_text_of
    two b bl bu =
        rw (pair_text (sent_of b), is_good-sent_of b, low_seven-sent_of b bu, le-ltb b 0x20 bl)
        (counts _ _ (types (write_of c a) _ b (types c (cleared_of d) a (clears c d h) r) (is_ready-write_of c a ∙ r)))
