-- Which turns are seen: of a stretch that shows nothing, nothing; of a caption, its own run. Assumes nothing.
use mathlib.Core.Path.{◌≡◌, refl, sym, ap, ◌∙◌}
use mathlib.Core.Bool.{Bool, true, false, not}
use mathlib.Core.List.{List, [], ◌∷◌, append-nil}
use Prim.Native.Nat.{ℕ, ◌+◌, ◌≤◌}
use native.Mathlib.Omega.{arith}
use Rattle.facts.specs.Choice.{pick}
use Rattle.wire.specs.Reel.{pairs_of}
use Rattle.lines.specs.Line.{Run, run, lines_of}
use Rattle.runs.specs.Runs.{is_same, empty_screen, is_seen, seen_of}
use Rattle.runs.specs.Register.{text_of}
use Rattle.runs.proofs.Laws.{is_same_equal, equal_is_same}
use Rattle.tape.specs.Item.{bytes_of}
use Rattle.tape.specs.Tape.{tape_of}
use Rattle.tape.specs.Programme.{Cue, show, clear, wait, cue_of, AreFair}
use Rattle.tape.proofs.LawsOfSizes.{pairs_of-nulls_of}
use Rattle.registered.specs.Turns.{screen_behind, acts_at, stands_up_to, turns_from, Caption, cues_of, AllShowable, caption_runs_from}

-- a screen that is not empty is seen
pub is_seen_some : (screen : List ℕ) → (screen ≡ empty_screen → ⊥) → is_seen screen ≡ true
is_seen_some screen some = go (is_same screen empty_screen) refl
  where
    go : (t : Bool) → is_same screen empty_screen ≡ t → is_seen screen ≡ true
    go true t = absurd (some (is_same_equal screen empty_screen t))
    go false t = ap not t

is_same_back : (a b : List ℕ) → is_same a b ≡ false → is_same b a ≡ false
is_same_back a b t = go (is_same b a) refl
  where
    go : (u : Bool) → is_same b a ≡ u → is_same b a ≡ false
    go true u = absurd (let z = sym t ∙ equal_is_same a b (sym (is_same_equal b a u)) in let y : ◌≡◌ {A = ℕ} 0 1 = cc in omega arith)
    go false u = u

-- One cue.

module _ (c : Cue) (more : List Cue) (since last : ℕ) (screen : List ℕ) where
  turns_same : is_same (screen_behind c screen) screen ≡ true → turns_from since last screen (c ∷ more) ≡ turns_from since (last + pairs_of (cue_of c)) screen more
  unfolding turns_from
  turns_same t = rw t

  turns_other : is_same (screen_behind c screen) screen ≡ false
      → turns_from since last screen (c ∷ more) ≡ run since (stands_up_to last (pairs_of (cue_of c))) screen ∷ turns_from (acts_at last (pairs_of (cue_of c))) (last + pairs_of (cue_of c)) (screen_behind c screen) more
  unfolding turns_from
  turns_other t = rw t

turns_wait : (n : ℕ) (more : List Cue) (since last : ℕ) (screen : List ℕ) → turns_from since last screen (wait n ∷ more) ≡ turns_from since (last + n) screen more
turns_wait n more since last screen =
    turns_same (wait n) more since last screen (equal_is_same screen screen refl) ∙ ap (λ (k : ℕ). turns_from since (last + k) screen more) (pairs_of-nulls_of n)

edm_pairs : pairs_of (cue_of (clear 1)) ≡ 2
unfolding bytes_of
edm_pairs = refl

seen_pick : (t : Bool) (a b p q : List Run) → seen_of a ≡ seen_of p → seen_of b ≡ seen_of q → seen_of (pick t a b) ≡ seen_of (pick t p q)
seen_pick true a b p q e f = e
seen_pick false a b p q e f = f

-- when a stretch that shows nothing began is not seen
seen_since : (cs : List Cue) (since since' last : ℕ) → seen_of (turns_from since last empty_screen cs) ≡ seen_of (turns_from since' last empty_screen cs)
unfolding turns_from
seen_since [] since since' last = refl
seen_since (c ∷ more) since since' last =
    let n = pairs_of (cue_of c) in
    let next = screen_behind c empty_screen in
    let rest = turns_from (acts_at last n) (last + n) next more in
    seen_pick (is_same next empty_screen) (turns_from since (last + n) empty_screen more) (run since (stands_up_to last n) empty_screen ∷ rest)
    (turns_from since' (last + n) empty_screen more) (run since' (stands_up_to last n) empty_screen ∷ rest) (seen_since more since since' (last + n)) refl

-- A caption, behind a stretch that shows nothing.

module _ (memory : List ℕ) (since last : ℕ) where
  abbrev n : ℕ
  n = pairs_of (tape_of memory 1)

  -- held for no frame, it is the tape; its screen stands where it is not empty
  empty_turns : (more : List Cue) → is_same memory empty_screen ≡ true → turns_from since last empty_screen (show memory 1 0 ∷ more) ≡ turns_from since (last + n) empty_screen more
  unfolding tape_of
  empty_turns more t = turns_same (show memory 1 0) more since last empty_screen t

  some_turns : (more : List Cue) → is_same memory empty_screen ≡ false → turns_from since last empty_screen (show memory 1 0 ∷ more)
      ≡ run since (stands_up_to last n) empty_screen ∷ turns_from (acts_at last n) (last + n) memory more
  unfolding tape_of
  some_turns more t = turns_other (show memory 1 0) more since last empty_screen t

  -- the end of the input closes it
  pub seen_open : (w : ℕ) → seen_of (turns_from since last empty_screen (show memory 1 0 ∷ wait w ∷ [])) ≡ seen_of (run (acts_at last n) (last + n + w) memory ∷ [])
  unfolding turns_from
  seen_open w = go (is_same memory empty_screen) refl
    where
      go : (t : Bool) → is_same memory empty_screen ≡ t → seen_of (turns_from since last empty_screen (show memory 1 0 ∷ wait w ∷ []))
          ≡ seen_of (run (acts_at last n) (last + n + w) memory ∷ [])
      go true t = ap seen_of (empty_turns (wait w ∷ []) t ∙ turns_wait w [] since (last + n) empty_screen) ∙ rw t
      go false t =
          ap seen_of (some_turns (wait w ∷ []) t ∙ ap (λ (rs : List Run). run since (stands_up_to last n) empty_screen ∷ rs) (turns_wait w [] (acts_at last n) (last + n) memory))

  -- it is cleared
  module _ (w v : ℕ) (more : List Cue) where
    abbrev last_frame : ℕ
    last_frame = last + n + w

    clear_empty : turns_from since last_frame empty_screen (clear 1 ∷ wait v ∷ more) ≡ turns_from since (last_frame + 2 + v) empty_screen more
    clear_empty =
        turns_same (clear 1) (wait v ∷ more) since last_frame empty_screen refl
        ∙ ap (λ (k : ℕ). turns_from since (last_frame + k) empty_screen (wait v ∷ more)) edm_pairs ∙ turns_wait v more since (last_frame + 2) empty_screen

    clear_some : (from : ℕ) → is_same memory empty_screen ≡ false → turns_from from last_frame memory (clear 1 ∷ wait v ∷ more) ≡ run from last_frame memory ∷ turns_from (last_frame + 1) (last_frame + 2 + v) empty_screen more
    clear_some from t =
        let back : stands_up_to last_frame 2 ≡ last_frame = omega arith in
        let one : acts_at last_frame 2 ≡ last_frame + 1 = omega arith in
        turns_other (clear 1) (wait v ∷ more) from last_frame memory (is_same_back memory empty_screen t)
        ∙ ap (λ (k : ℕ). run from (stands_up_to last_frame k) memory ∷ turns_from (acts_at last_frame k) (last_frame + k) empty_screen (wait v ∷ more)) edm_pairs
        ∙ (λ i. run from (back i) memory ∷ turns_wait v more (one i) (last_frame + 2) empty_screen i)

    seen_caption : seen_of (turns_from since last empty_screen (show memory 1 0 ∷ wait w ∷ clear 1 ∷ wait v ∷ more)) ≡ seen_of (run (acts_at last n) last_frame memory ∷ turns_from 0 (last_frame + 2 + v) empty_screen more)
    seen_caption = go (is_same memory empty_screen) refl
      where
        go : (t : Bool) → is_same memory empty_screen ≡ t
            → seen_of (turns_from since last empty_screen (show memory 1 0 ∷ wait w ∷ clear 1 ∷ wait v ∷ more)) ≡ seen_of (run (acts_at last n) last_frame memory ∷ turns_from 0 (last_frame + 2 + v) empty_screen more)
        go true t =
            ap seen_of (empty_turns (wait w ∷ clear 1 ∷ wait v ∷ more) t ∙ turns_wait w (clear 1 ∷ wait v ∷ more) since (last + n) empty_screen ∙ clear_empty)
            ∙ rw t (seen_since more since 0 (last_frame + 2 + v))
        go false t =
            ap seen_of (some_turns (wait w ∷ clear 1 ∷ wait v ∷ more) t
            ∙ ap (λ (rs : List Run). run since (stands_up_to last n) empty_screen ∷ rs) (turns_wait w (clear 1 ∷ wait v ∷ more) (acts_at last n) (last + n) memory ∙ clear_some (acts_at last n) t))
            ∙ rw t (ap (λ (rs : List Run). run (acts_at last n) last_frame memory ∷ rs) (seen_since more (last_frame + 1) 0 (last_frame + 2 + v)))

-- Captions one after the other.

pub cues_of_fair : (cs : List Caption) → AllShowable cs → AreFair (cues_of cs)
cues_of_fair [] f = tt
cues_of_fair (c ∷ cs) f =
    let one : 1 ≤ 1 = omega arith in
    let two : 1 ≤ 2 = omega arith in
    ((f.0, (one, two)), (tt, ((one, two), (tt, cues_of_fair cs f.1))))

pub seen_captions : (cs : List Caption) (since last : ℕ) → seen_of (turns_from since last empty_screen (cues_of cs)) ≡ seen_of (caption_runs_from last cs)
unfolding turns_from
seen_captions [] since last = refl
seen_captions (c ∷ cs) since last =
    let n = pairs_of (tape_of c.memory 1) in
    let rest = seen_captions cs 0 (last + n + c.hold + 2 + c.pause) in
    seen_caption c.memory since last c.hold c.pause (cues_of cs)
    ∙ ap (λ (rs : List Run). pick (is_seen c.memory) (run (acts_at last n) (last + n + c.hold) c.memory ∷ rs) rs) rest

-- what is printed of one run: its lines
pub text_of_one : (r : Run) → text_of (r ∷ []) ≡ lines_of r
unfolding text_of
text_of_one r = append-nil (lines_of r)
