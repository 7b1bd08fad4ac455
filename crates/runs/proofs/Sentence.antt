-- The runs of any list of screens are what the paper's sentence says: longest stretches, seen, in order, apart, and every frame that shows something lies in exactly one. Assumes nothing.
use mathlib.Core.Path.{◌≡◌, refl, ap, sym, ◌∙◌}
use mathlib.Core.Logic.{inl, inr}
use mathlib.Core.Bool.{Bool, true, false, not}
use mathlib.Core.List.{List, [], ◌∷◌}
use Prim.Native.Nat.{ℕ, suc, ◌+◌, ◌-◌, ◌≤◌, ◌<◌}
use native.Mathlib.Nat.{add-zero, zero-add}
use native.Mathlib.Omega.{arith}
use lib.ListN.{length, get_or}
use borrow.Author.Tests.{not-false}
use Rattle.facts.proofs.Choice.{pick_cases, below_cases}
use Rattle.lines.specs.Line.{Run, run}
use Rattle.runs.specs.Runs.{is_same, stretches_from, empty_screen, is_seen, seen_of, runs_of}
use Rattle.runs.specs.Sentence.{screen_at, IsStretch, IsRun, All, One, Ordered, Within}
use Rattle.runs.proofs.Laws.{is_same_equal, equal_is_same}

-- stretches one behind the other, from frame a on to the last
Chain : List (List ℕ) → ℕ → List Run → Type 0
Chain all a [] = a ≡ length all + 1
Chain all a (r ∷ rs) = (r.from ≡ a) × IsStretch all r × Chain all (r.to + 1) rs

-- what is known of an open stretch and of the screens behind it
record Open (all : List (List ℕ)) (since last : ℕ) (screen : List ℕ) (ss : List (List ℕ)) : Type 0 where
  order : since ≤ last
  count : last + length ss ≡ length all
  equal : (k : ℕ) → since ≤ k → k ≤ last → screen_at all k ≡ screen
  tail : (i : ℕ) → i < length ss → screen_at all (last + 1 + i) ≡ get_or ss i []
  before : 1 ≤ since → screen_at all (since - 1) ≡ screen → ⊥

module _ (all : List (List ℕ)) (since last : ℕ) (screen s : List ℕ) (ss : List (List ℕ)) (o : Open all since last screen (s ∷ ss)) where
  next_screen : screen_at all (last + 1) ≡ s
  next_screen = ap (screen_at all) (sym (add-zero (last + 1))) ∙ o.tail 0 (omega arith)

  rest_screens : (i : ℕ) → i < length ss → screen_at all (last + 1 + 1 + i) ≡ get_or ss i []
  rest_screens i h =
      let e : last + 1 + 1 + i ≡ last + 1 + suc i = omega arith in
      ap (screen_at all) e ∙ o.tail (suc i) (omega arith)

  open_longer : s ≡ screen → Open all since (last + 1) screen ss
  open_longer e =
      let order = o.order in
      let count = o.count in
      record {
        order = omega arith;
        count = omega arith;
        equal = λ k low high. below_cases k (last + 1) (λ l. o.equal k low (omega arith))
            (λ g. let here : k ≡ last + 1 = omega arith in ap (screen_at all) here ∙ next_screen ∙ e);
        tail = rest_screens;
        before = o.before;
      }

  open_next : (screen ≡ s → ⊥) → Open all (last + 1) (last + 1) s ss
  open_next ne =
      let order = o.order in
      let count = o.count in
      record {
        order = omega arith;
        count = omega arith;
        equal = λ k low high. let here : k ≡ last + 1 = omega arith in ap (screen_at all) here ∙ next_screen;
        tail = rest_screens;
        before = λ low e. let back : last + 1 - 1 ≡ last = omega arith in ne (sym (o.equal last order (omega arith)) ∙ ap (screen_at all) (sym back) ∙ e);
      }

closes : (all : List (List ℕ)) (since last : ℕ) (screen : List ℕ) (ss : List (List ℕ)) (o : Open all since last screen ss)
    → (last < length all → screen_at all (last + 1) ≡ screen → ⊥) → IsStretch all (run since last screen)
closes all since last screen ss o b = let count = o.count in record { order = o.order; last = omega arith; equal = o.equal; before = o.before; behind = b }

chain : (all : List (List ℕ)) (since last : ℕ) (screen : List ℕ) (ss : List (List ℕ)) → Open all since last screen ss → Chain all since (stretches_from since last screen ss)
unfolding Chain stretches_from
chain all since last screen [] o = let count = o.count in (refl, closes all since last screen [] o (λ h. absurd (omega arith)), omega arith)
chain all since last screen (s ∷ ss) o =
    pick_cases (Chain all since) (is_same s screen) (λ t. chain all since (last + 1) screen ss (open_longer all since last screen s ss o (is_same_equal s screen t)))
    (λ t.
    let other : s ≡ screen → ⊥ = λ e. let z = equal_is_same s screen e in let y : ◌≡◌ {A = ℕ} 0 1 = cc in omega arith in (
      refl,
      closes all since last screen (s ∷ ss) o (λ h e. other (sym (next_screen all since last screen s ss o) ∙ e)),
      chain all (last + 1) (last + 1) s ss (open_next all since last screen s ss o (λ e. other (sym e))),
    ))

-- the fresh desk's frame 0 opens the first stretch
stretches : (ss : List (List ℕ)) → Chain ss 0 (stretches_from 0 0 empty_screen ss)
stretches ss =
    chain ss 0 0 empty_screen ss
    (record {
      order = omega arith;
      count = zero-add (length ss);
      equal = λ k low high. let here : k ≡ 0 = omega arith in ap (screen_at ss) here;
      tail = λ i h. let e : 0 + 1 + i ≡ suc i = omega arith in ap (screen_at ss) e;
      before = λ low e. omega arith;
    })

-- What holds of every stretch of a chain holds of those that are seen.

seen_screen : (s : List ℕ) → is_seen s ≡ true → s ≡ empty_screen → ⊥
seen_screen s t e = let z = ap not (equal_is_same s empty_screen e) in let y : ◌≡◌ {A = ℕ} 0 1 = cc in omega arith

screen_seen : (s : List ℕ) → (s ≡ empty_screen → ⊥) → is_seen s ≡ true
screen_seen s ne = go (is_seen s) refl
  where
    go : (t : Bool) → is_seen s ≡ t → is_seen s ≡ true
    go true e = e
    go false e = absurd (ne (is_same_equal s empty_screen (not-false (is_same s empty_screen) e)))

all_so : {P Q : Run → Type 0} (rs : List Run) → ((r : Run) → P r → Q r) → All P rs → All Q rs
all_so [] f h = tt
all_so (r ∷ rs) f h = (f r h.0, all_so rs f h.1)

chain_runs : (all : List (List ℕ)) (a : ℕ) (rs : List Run) → Chain all a rs → All (IsRun all) (seen_of rs)
unfolding Chain
chain_runs all a [] h = tt
chain_runs all a (r ∷ rs) h =
    let rest = chain_runs all (r.to + 1) rs h.2 in
    pick_cases (All (IsRun all)) (is_seen r.screen)
    (λ t.
    let seen = seen_screen r.screen t in
    let first : 1 ≤ r.from = below_cases 0 r.from (λ l. l)
    (λ g. let zeroth : 0 ≡ r.from = omega arith in absurd (seen (sym (h.1.equal 0 (omega arith) (omega arith))))) in
    (record { stretch = h.1; first = first; seen = seen }, rest))
    (λ t. rest)

chain_later : (all : List (List ℕ)) (a : ℕ) (rs : List Run) → Chain all a rs → All (λ q. a ≤ q.from) (seen_of rs)
unfolding Chain
chain_later all a [] h = tt
chain_later all a (r ∷ rs) h =
    let order = h.1.order in
    let from = h.0 in
    let rest = all_so {P = λ q. r.to + 1 ≤ q.from} {Q = λ q. a ≤ q.from} (seen_of rs) (λ q l. omega arith) (chain_later all (r.to + 1) rs h.2) in
    pick_cases (All (λ q. a ≤ q.from)) (is_seen r.screen) (λ t. (omega arith, rest)) (λ t. rest)

chain_ordered : (all : List (List ℕ)) (a : ℕ) (rs : List Run) → Chain all a rs → Ordered (seen_of rs)
unfolding Chain
chain_ordered all a [] h = tt
chain_ordered all a (r ∷ rs) h =
    let rest = chain_ordered all (r.to + 1) rs h.2 in
    pick_cases Ordered (is_seen r.screen)
    (λ t. (all_so {P = λ q. r.to + 1 ≤ q.from} {Q = λ q. r.to < q.from} (seen_of rs) (λ q l. omega arith) (chain_later all (r.to + 1) rs h.2), rest)) (λ t. rest)

chain_one : (all : List (List ℕ)) (a k : ℕ) (rs : List Run) → Chain all a rs → a ≤ k → k ≤ length all → (screen_at all k ≡ empty_screen → ⊥) → One (Within k) (seen_of rs)
unfolding Chain
chain_one all a k [] h low high ne = omega arith
chain_one all a k (r ∷ rs) h low high ne =
    let from = h.0 in
    let later = chain_later all (r.to + 1) rs h.2 in
    below_cases r.to k
    (λ past.
    let rest = chain_one all (r.to + 1) k rs h.2 (omega arith) high ne in
    pick_cases (One (Within k)) (is_seen r.screen) (λ t. inr ((λ w. omega (arith, w)), rest)) (λ t. rest))
    (λ inside.
    let same = h.1.equal k (omega arith) inside in
    pick_cases (One (Within k)) (is_seen r.screen)
    (λ t. inl ((omega arith, inside), all_so {P = λ q. r.to + 1 ≤ q.from} {Q = λ q. Within k q → ⊥} (seen_of rs) (λ q l w. omega (arith, w)) later))
    (λ t. absurd (ne (same ∙ is_same_equal r.screen empty_screen (not-false (is_same r.screen empty_screen) t)))))

-- The paper's sentence.

module _ (ss : List (List ℕ)) where
  -- "a longest stretch of frames whose displayed cells are equal in every byte and not all empty"
  pub runs_of_runs : All (IsRun ss) (runs_of ss)
  unfolding runs_of
  runs_of_runs = chain_runs ss 0 _ (stretches ss)

  -- "in order of frames", no two with a frame in common
  pub runs_of_ordered : Ordered (runs_of ss)
  unfolding runs_of
  runs_of_ordered = chain_ordered ss 0 _ (stretches ss)

  -- and every frame whose screen is not all empty lies in exactly one
  pub runs_of-one : (k : ℕ) → k ≤ length ss → (screen_at ss k ≡ empty_screen → ⊥) → One (Within k) (runs_of ss)
  unfolding runs_of
  runs_of-one k high ne = chain_one ss 0 k _ (stretches ss) (omega arith) high ne
