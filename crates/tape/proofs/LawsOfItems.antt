-- What a stretch of a tape leads a desk to, stretch by stretch. Assumes nothing.
use mathlib.Core.Path.{◌≡◌, refl, sym, ap, subst, ◌∙◌}
use mathlib.Core.Bool.{false}
use mathlib.Core.List.{List, [], ◌∷◌, ◌++◌, append_assoc}
use Prim.Native.Nat.{ℕ, ◌+◌, ◌-◌, ◌*◌, ◌<◌, ◌≤◌}
use native.Mathlib.Omega.{arith}
use lib.ListN.{length, length-append, replicate, replicate-append-replicate}
use borrow.Author.Tests.{lt-ltb, le-ltb}
use Rattle.codes.specs.Codes.{code_of}
use Rattle.codes.specs.Assigned.{is_unassigned}
use Rattle.state.specs.State.{Captions, Desk}
use Rattle.typing.specs.Typing.{write_of}
use Rattle.acts.specs.Act.{act_of}
use Rattle.decode.specs.Pair.{captions_of}
use Rattle.decode.specs.Step.{taken_of}
use Rattle.tape.specs.Item.{item, bytes_of}
use Rattle.wire.specs.Byte.{sent_of}
use Rattle.decode.specs.Play.{play_of, displayed_of, film_of}
use Rattle.tape.proofs.LawsOfPairs.{Follows, Hears, twice, text_second, one, two}
use Rattle.tape.proofs.LawsOfLoading.{ready, write_of_kept, both_kept}
use Rattle.tape.proofs.LawsOfCodes.{tuned}

-- a desk that hears the channel, that does not expect EOC, and whose captions are as P has them
pub record Under (channel : ℕ) (P : Captions → Type 0) (d : Desk) : Type 0 where
  pub selected : d.state.selected ≡ channel
  pub stream : d.state.stream ≡ channel
  pub free : d.state.first ≡ 0x14 + (channel - 1) * 8 → d.state.second ≡ 0x2f → ⊥
  pub holds : P (captions_of d)

-- the bytes s, played on d, lead to a desk under Q, whatever is played behind them; they are so many pairs, and none of them changes what is displayed
pub record Led (channel : ℕ) (Q : Captions → Type 0) (d : Desk) (s : List ℕ) : Type 0 where
  pub to : Desk
  pub plays : (l : List ℕ) → play_of d (s ++ l) ≡ play_of to l
  pub under : Under channel Q to
  pub count : ℕ
  pub size : length s ≡ count * 2
  pub kept : displayed_of to.cells ≡ displayed_of d.cells
  pub films : (l : List ℕ) → film_of d (s ++ l) ≡ replicate count (displayed_of d.cells) ++ film_of to l

-- and so they do on every desk under P
abbrev pub Leads : ℕ → (Captions → Type 0) → (Captions → Type 0) → List ℕ → Type 0
Leads channel P Q s = (d : Desk) → Under channel P d → Led channel Q d s

-- so many and so many more
pub replicate_then : {A : Type 0} (m n : ℕ) (z : A) (l : List A) → replicate m z ++ (replicate n z ++ l) ≡ replicate (m + n) z ++ l
replicate_then {A} m n z l = sym (append_assoc (replicate m z) (replicate n z) l) ∙ ap (λ (k : List A). k ++ l) (replicate-append-replicate m n z)

module _ (channel : ℕ) where
  pub leads_none : {P Q : Captions → Type 0} → ((c : Captions) → P c → Q c) → Leads channel P Q []
  leads_none f d u = record {
    to = d;
    plays = λ l. refl;
    under = record { selected = u.selected; stream = u.stream; free = u.free; holds = f (captions_of d) u.holds };
    count = 0;
    size = refl;
    kept = refl;
    films = λ l. refl;
  }

  -- one stretch behind another
  pub led_then : {Q R : Captions → Type 0} {d : Desk} (s t : List ℕ) → Led channel Q d s → Leads channel Q R t → Led channel R d (s ++ t)
  led_then {d = d} s t a g =
      let b = g a.to a.under in
      let m = a.size in
      let n = b.size in
      record {
        to = b.to;
        plays = λ l. ap (play_of d) (append_assoc s t l) ∙ a.plays (t ++ l) ∙ b.plays l;
        under = b.under;
        count = a.count + b.count;
        size = omega (arith, length-append s t);
        kept = b.kept ∙ a.kept;
        films = λ l.
            ap (film_of d) (append_assoc s t l) ∙ a.films (t ++ l)
            ∙ ap (λ (ss : List (List ℕ)). replicate a.count (displayed_of d.cells) ++ ss)
            (b.films l ∙ ap (λ (z : List ℕ). replicate b.count z ++ film_of b.to l) a.kept)
            ∙ replicate_then a.count b.count (displayed_of d.cells) (film_of b.to l);
      }

  pub leads_then : {P Q R : Captions → Type 0} (s t : List ℕ) → Leads channel P Q s → Leads channel Q R t → Leads channel P R (s ++ t)
  leads_then s t f g d u = led_then s t (f d u) g

  -- less may be said of where it leads
  pub leads_so : {P Q R : Captions → Type 0} (s : List ℕ) → ((c : Captions) → Q c → R c) → Leads channel P Q s → Leads channel P R s
  leads_so s f g d u =
      let a = g d u in
      record {
        to = a.to;
        plays = a.plays;
        under = record { selected = a.under.selected; stream = a.under.stream; free = a.under.free; holds = f _ a.under.holds };
        count = a.count;
        size = a.size;
        kept = a.kept;
        films = a.films;
      }

  heard : {Q : Captions → Type 0} {c : Captions} {d : Desk} → Hears channel c d → (d.state.first ≡ 0x14 + (channel - 1) * 8 → d.state.second ≡ 0x2f → ⊥) → Q c → Under channel Q d
  heard {Q} h f q = record { selected = h.follows.selected; stream = h.stream; free = f; holds = subst Q (sym h.follows.captions) q }

  hears : {P : Captions → Type 0} {d : Desk} → Under channel P d → Hears channel (captions_of d) d
  hears u = record { follows = record { selected = u.selected; captions = refl }; stream = u.stream }

  -- the cells are those of the captions
  shown_so : {c : Captions} {d : Desk} {z : List ℕ} → Hears channel c d → displayed_of c.cells ≡ z → displayed_of d.cells ≡ z
  shown_so h e = ap (λ (x : Captions). displayed_of x.cells) h.follows.captions ∙ e

  -- a control item acts once, on a desk that has the channel selected, whatever its stream's; it is not EOC
  module _ (low : 1 ≤ channel) (high : channel ≤ 2) (a b n : ℕ) (al : 0x10 ≤ a) (au : a ≤ 0x17) (bl : 0x20 ≤ b) (bu : b < 128) (other : a ≡ 0x14 → b ≡ 0x2f → ⊥) (t : is_unassigned (code_of a b) ≡ false) where
    pub led_control : {Q : Captions → Type 0} (d : Desk) → d.state.selected ≡ channel → Q (act_of (captions_of d) (code_of a b))
        → displayed_of (act_of (captions_of d) (code_of a b)).cells ≡ displayed_of d.cells → Led channel Q d (bytes_of channel (item a b n))
    unfolding bytes_of
    led_control {Q} d s q same =
        let k = tuned channel a b low high al au bl bu t in
        let f : Follows channel (captions_of d) d = record { selected = s; captions = refl } in
        let w = twice channel (a + (channel - 1) * 8) b k.control (captions_of d) d f in
        let x = sent_of (a + (channel - 1) * 8) in
        let to = taken_of (taken_of d x (sent_of b)) x (sent_of b) in
        let kept = shown_so {z = displayed_of d.cells} w.hears (rw k.same same) in
        rw (lt-ltb a 0x20 (omega arith))
        (record {
          to = to;
          plays = λ l. refl;
          under = heard w.hears (w.expects (λ (x y : ℕ). x ≡ 0x14 + (channel - 1) * 8 → y ≡ 0x2f → ⊥) (λ e g. omega arith) (λ e g. other (omega arith) g)) (rw k.same q);
          count = 2;
          size = refl;
          kept = kept;
          films = λ l i. w.between (λ (x : List ℕ). displayed_of x ≡ displayed_of d.cells) refl kept i ∷ kept i ∷ film_of to l;
        })

    pub leads_control : {P Q : Captions → Type 0} → ((c : Captions) → P c → Q (act_of c (code_of a b))) → ((c : Captions) → P c → displayed_of (act_of c (code_of a b)).cells ≡ displayed_of c.cells)
        → Leads channel P Q (bytes_of channel (item a b n))
    leads_control f g d u = led_control d u.selected (f (captions_of d) u.holds) (g (captions_of d) u.holds)

  module _ {P Q : Captions → Type 0} (pop : (c : Captions) → P c → (c.mode.style ≡ 2) × (c.mode.text ≡ 0)) (a n : ℕ) (al : 0x20 ≤ a) (au : a < 128) where
    -- pairs of characters, which are not expected
    typed : {c : Captions} (d : Desk) (u : Under channel P d) (b : ℕ) → Hears channel c (taken_of d (sent_of a) (sent_of b)) → displayed_of c.cells ≡ displayed_of d.cells → Q c
        → Led channel Q d (sent_of a ∷ sent_of b ∷ [])
    typed d u b h same q =
        let p = pop (captions_of d) u.holds in
        let none = text_second channel (captions_of d) d (hears u) (ready (captions_of d).mode p.0 p.1) a al au (sent_of b) in
        let kept = shown_so h same in
        let to = taken_of d (sent_of a) (sent_of b) in
        record { to = to; plays = λ l. refl; under = heard h (λ e g. omega arith) q; count = 1; size = refl; kept = kept; films = λ l i. kept i ∷ film_of to l }

    pub leads_one : ((c : Captions) → P c → Q (write_of c a)) → Leads channel P Q (bytes_of channel (item a 0 n))
    unfolding bytes_of
    leads_one f d u =
        let p = pop (captions_of d) u.holds in
        rw (le-ltb a 0x20 al)
        (typed d u 0 (one channel (captions_of d) d (hears u) (ready (captions_of d).mode p.0 p.1) a al au) (write_of_kept (captions_of d) p.0 a) (f (captions_of d) u.holds))

    pub leads_two : (b : ℕ) → 0x20 ≤ b → b < 128 → ((c : Captions) → P c → Q (write_of (write_of c a) b)) → Leads channel P Q (bytes_of channel (item a b n))
    unfolding bytes_of
    leads_two b bl bu f d u =
        let p = pop (captions_of d) u.holds in
        rw (le-ltb a 0x20 al)
        (typed d u b (two channel (captions_of d) d (hears u) (ready (captions_of d).mode p.0 p.1) a al au b bl bu) (both_kept (captions_of d) a b p.0) (f (captions_of d) u.holds))
