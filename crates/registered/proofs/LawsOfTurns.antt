-- The stretches of a programme's film are its turns, cue by cue. Assumes nothing.
use mathlib.Core.Path.{◌≡◌, refl, sym, ap, subst, ◌∙◌}
use mathlib.Core.Bool.{Bool, true, false}
use mathlib.Core.List.{List, [], ◌∷◌, ◌++◌}
use Prim.Native.Nat.{ℕ, zero, suc, ◌+◌, ◌≤◌}
use native.Mathlib.Nat.{add-zero}
use native.Mathlib.Omega.{arith}
use lib.ListN.{length, replicate}
use Rattle.facts.specs.Choice.{pick}
use Rattle.facts.proofs.Choice.{below_cases}
use Rattle.wire.specs.Reel.{pairs_of}
use Rattle.wire.proofs.LawsOfReel.{pairs_of_half}
use Rattle.state.specs.State.{Captions, Desk}
use Rattle.decode.specs.Pair.{captions_of}
use Rattle.decode.specs.Play.{displayed_of, film_of}
use Rattle.lines.specs.Line.{Run, run}
use Rattle.runs.specs.Runs.{is_same, stretches_from, empty_screen}
use Rattle.runs.proofs.Laws.{is_same_equal, equal_is_same}
use Rattle.tape.specs.Programme.{nulls_of, Cue, show, clear, wait, cue_of, programme_of, IsChannel, IsFair, AreFair}
use Rattle.tape.proofs.LawsOfPairs.{Follows}
use Rattle.tape.proofs.LawsOfTape.{Turned}
use Rattle.tape.proofs.LawsOfOther.{Passed, other_show_passes, other_clear_passes}
use Rattle.registered.specs.Turns.{screen_behind, acts_at, stands_up_to, turns_from}
use Rattle.registered.proofs.LawsOfCues.{Shows, nulls_pass, show_turns, clear_turns}

-- frames that show the same
still : (n since last : ℕ) (screen : List ℕ) (ss : List (List ℕ)) → stretches_from since last screen (replicate n screen ++ ss) ≡ stretches_from since (last + n) screen ss
unfolding stretches_from
still zero since last screen ss = ap (λ (k : ℕ). stretches_from since k screen ss) (sym (add-zero last))
still (suc n) since last screen ss =
    let e : last + 1 + n ≡ last + suc n = omega arith in
    rw (equal_is_same screen screen refl) (still n since (last + 1) screen ss ∙ ap (λ (k : ℕ). stretches_from since k screen ss) e)

-- the stretches behind n frames, of which the last two may show another screen
abbrev turn_of : ℕ → ℕ → List ℕ → List ℕ → ℕ → List (List ℕ) → List Run
turn_of since last screen next n ss =
    pick (is_same next screen) (stretches_from since (last + n) screen ss) (run since (stands_up_to last n) screen ∷ stretches_from (acts_at last n) (last + n) next ss)

turn : (c since last : ℕ) (screen next : List ℕ) (ss : List (List ℕ)) → stretches_from since last screen (replicate c screen ++ (next ∷ next ∷ ss)) ≡ turn_of since last screen next (c + 2) ss
unfolding stretches_from
turn c since last screen next ss = still c since last screen (next ∷ next ∷ ss) ∙ go (is_same next screen) refl
  where
    go : (t : Bool) → is_same next screen ≡ t → stretches_from since (last + c) screen (next ∷ next ∷ ss)
        ≡ pick t (stretches_from since (last + (c + 2)) screen ss) (run since (stands_up_to last (c + 2)) screen ∷ stretches_from (acts_at last (c + 2)) (last + (c + 2)) next ss)
    go true t =
        let all : last + c + 1 + 1 ≡ last + (c + 2) = omega arith in
        rw t (ap (λ (k : ℕ). stretches_from since k screen ss) all)
    go false t =
        let one : last + c ≡ stands_up_to last (c + 2) = omega arith in
        let two : last + c + 1 ≡ acts_at last (c + 2) = omega arith in
        let end : last + c + 1 + 1 ≡ last + (c + 2) = omega arith in
        rw (t, equal_is_same next next refl) (λ i. run since (one i) screen ∷ stretches_from (two i) (end i) next ss)

-- Bytes s that leave a desk displaying `next`, and the stretches of their frames, whatever is played behind them.
record Told (screen next : List ℕ) (d : Desk) (s : List ℕ) : Type 0 where
  to : Desk
  shows : Shows next to
  turns : (since last : ℕ) (l : List ℕ) → stretches_from since last screen (film_of d (s ++ l)) ≡ turn_of since last screen next (pairs_of s) (film_of to l)

module _ (screen : List ℕ) (d : Desk) (h : Shows screen d) where
  -- the last two of them turn
  turned_told : (next s : List ℕ) → Turned 1 next d s → Told screen next d s
  turned_told next s a =
      let size = a.size in
      let n : a.count + 2 ≡ pairs_of s = omega (arith, pairs_of_half s) in
      record {
        to = a.to;
        shows = record { selected = a.selected; free = λ e. a.none; shown = a.shown; wide = a.wide };
        turns = λ since last l.
            ap (stretches_from since last screen) (a.films l ∙ (λ i. replicate a.count (h.shown i) ++ (next ∷ next ∷ film_of a.to l)))
            ∙ turn a.count since last screen next (film_of a.to l) ∙ ap (λ (k : ℕ). turn_of since last screen next k (film_of a.to l)) n;
      }

  -- none of them does
  passed_told : (s : List ℕ) → Passed 1 (captions_of d) d s → Told screen screen d s
  passed_told s a =
      let cells = a.follows.captions in
      record {
        to = a.to;
        shows = record {
          selected = a.follows.selected;
          free = a.free;
          shown = ap (λ (c : Captions). displayed_of c.cells) cells ∙ h.shown;
          wide = subst (λ (c : Captions). 1920 ≤ length c.cells) (sym cells) h.wide;
        };
        turns = λ since last l.
            ap (stretches_from since last screen) (a.films l ∙ (λ i. replicate (pairs_of s) (h.shown i) ++ film_of a.to l))
            ∙ still (pairs_of s) since last screen (film_of a.to l) ∙ rw (equal_is_same screen screen refl);
      }

  follows : Follows 1 (captions_of d) d
  follows = record { selected = h.selected; captions = refl }

  -- a cue is of channel 1, or of the other
  by_channel : (P : ℕ → Type 0) (channel : ℕ) → IsChannel channel → P 1 → P 2 → P channel
  by_channel P channel c one two =
      let low = c.0 in
      let high = c.1 in
      below_cases channel 2 (λ l. let e : 1 ≡ channel = omega arith in subst P e one) (λ l. let e : 2 ≡ channel = omega arith in subst P e two)

  cue_told : (c : Cue) → IsFair c → Told screen (screen_behind c screen) d (cue_of c)
  cue_told (show memory channel held) f =
      by_channel (λ (k : ℕ). Told screen (screen_behind (show memory k held) screen) d (cue_of (show memory k held))) channel f.1
      (turned_told memory (cue_of (show memory 1 held)) (show_turns memory held f.0 screen d h))
      (passed_told (cue_of (show memory 2 held))
      (other_show_passes 1 2 (omega arith) (omega arith) (omega arith) (omega arith) (λ e. omega arith) (captions_of d) memory f.0.valid f.0.writable held d follows))
  cue_told (clear channel) f =
      by_channel (λ (k : ℕ). Told screen (screen_behind (clear k) screen) d (cue_of (clear k))) channel f
      (turned_told empty_screen (cue_of (clear 1)) (clear_turns screen d h))
      (passed_told (cue_of (clear 2)) (other_clear_passes 1 2 (omega arith) (omega arith) (omega arith) (omega arith) (λ e. omega arith) (captions_of d) d follows))
  cue_told (wait n) f = passed_told (nulls_of n) (nulls_pass 1 n (captions_of d) d follows h.free)

pick_so : {A : Type 0} (t : Bool) {a b p q : A} → (t ≡ true → a ≡ p) → (t ≡ false → b ≡ q) → pick t a b ≡ pick t p q
pick_so true f g = f refl
pick_so false f g = g refl

-- and so cue by cue
pub stretches_turns : (cs : List Cue) → AreFair cs → (since last : ℕ) (screen : List ℕ) (d : Desk) → Shows screen d
    → stretches_from since last screen (film_of d (programme_of cs)) ≡ turns_from since last screen cs
unfolding stretches_from turns_from
stretches_turns [] f since last screen d h = refl
stretches_turns (c ∷ more) f since last screen d h =
    let a = cue_told screen d h c f.0 in
    let n = pairs_of (cue_of c) in
    let next = screen_behind c screen in
    a.turns since last (programme_of more)
    ∙ pick_so (is_same next screen)
    (λ t. stretches_turns more f.1 since (last + n) screen a.to (subst (λ (z : List ℕ). Shows z a.to) (is_same_equal next screen t) a.shows))
    (λ t. ap (λ (rs : List Run). run since (stands_up_to last n) screen ∷ rs) (stretches_turns more f.1 (acts_at last n) (last + n) next a.to a.shows))
