-- Acts and their three bytes: an act is read again from its bytes, and the log grows by one act, falls back to m and is read at any. Assumes nothing.
use mathlib.Core.Path.{◌≡◌, refl, ap, sym, ◌∙◌}
use mathlib.Core.List.{List, [], ◌∷◌, ◌++◌}
use mathlib.Core.Bool.{Bool, true, false, ◌&&◌, ◌||◌}
use Prim.Native.Nat.{ℕ, zero, suc, ◌+◌, ◌*◌, ◌<◌, ◌≤◌}
use native.Mathlib.Nat.{add-zero, not-suc-le-zero, le_of_suc-le-suc}
use native.Mathlib.Omega.{arith}
use lib.Dec.{eqb}
use lib.ListN.{length, get_or, take, length-append, length-take}
use Rattle.facts.specs.Choice.{pick}
use Rattle.facts.specs.Over.{over}
use Rattle.facts.proofs.Choice.{below_cases, and_left, and_right}
use Rattle.facts.proofs.Every.{every_of}
use Rattle.facts.proofs.Over.{part_at}
use Rattle.standing.specs.Acts.{Act, pair, select, is_channel, is_allowed, Meant, kind_of, first_of, second_of, entry_of, act_of, is_formed, at_act, are_formed}
use Rattle.standing.specs.Calls.{blank_from}
use Rattle.standing.specs.Bytes.{blocks, entry_at}
use Rattle.standing.proofs.Blocks.{part-blocks, over-blocks, blank-blocks}

-- The three bytes of an act, and the act.

act_of_entry_of : (a : Act) → act_of (kind_of a) (first_of a) (second_of a) ≡ a
unfolding act_of
act_of_entry_of (pair x y) = refl
act_of_entry_of (select c) = refl

pub is_formed_allowed : (a : Act) → is_allowed a ≡ true → is_formed (kind_of a) (first_of a) (second_of a) ≡ true
unfolding is_formed
is_formed_allowed (pair x y) h = refl
is_formed_allowed (select c) h = rw h

-- an act that can stand is not refused
pub meant_allowed : (a : Act) → Meant a → is_allowed a ≡ true
meant_allowed (pair x y) m = refl
meant_allowed (select c) m = m

is_formed_entry_of : (a : Act) → Meant a → is_formed (kind_of a) (first_of a) (second_of a) ≡ true
is_formed_entry_of a h = is_formed_allowed a (meant_allowed a h)

-- well formed bytes are an act that can stand
pub is_formed_meant : (kind x y : ℕ) → is_formed kind x y ≡ true → x < 256 → y < 256 → Meant (act_of kind x y)
unfolding is_formed act_of
is_formed_meant kind x y h p q = go (eqb kind 1) h
  where
    go : (b : Bool) → (b || (eqb kind 2 && (is_channel x && eqb y 0))) ≡ true → Meant (pick b (pair x y) (select x))
    go true e = (p, q)
    go false e = and_left (is_channel x) (eqb y 0) (and_right (eqb kind 2) (is_channel x && eqb y 0) e)

-- every act of a list can stand
abbrev pub AllMeant : List Act → Type 0
AllMeant [] = Unit {0}
AllMeant (a ∷ acts) = Meant a × AllMeant acts

pub meant_take : (m : ℕ) (acts : List Act) → AllMeant acts → AllMeant (take m acts)
meant_take zero acts h = tt
meant_take (suc m) [] h = tt
meant_take (suc m) (a ∷ acts) h = (h.0, meant_take m acts h.1)

pub meant_snoc : (acts : List Act) (a : Act) → AllMeant acts → Meant a → AllMeant (acts ++ a ∷ [])
meant_snoc [] a h k = (k, tt)
meant_snoc (b ∷ acts) a h k = (h.0, meant_snoc acts a h.1 k)

meant_at : (acts : List Act) (i : ℕ) (z : Act) → AllMeant acts → i < length acts → Meant (get_or acts i z)
meant_at [] i z h k = absurd (not-suc-le-zero k)
meant_at (a ∷ acts) zero z h k = h.0
meant_at (a ∷ acts) (suc i) z h k = meant_at acts i z h.1 (le_of_suc-le-suc k)

-- One place of the log.

pub length_entry_at : (acts : List Act) (i : ℕ) → length (entry_at acts i) ≡ 3
length_entry_at [] i = refl
length_entry_at (a ∷ acts) zero = refl
length_entry_at (a ∷ acts) (suc i) = length_entry_at acts i

entry_at_front : (acts rest : List Act) (i : ℕ) → i < length acts → entry_at (acts ++ rest) i ≡ entry_at acts i
entry_at_front [] rest i h = absurd (not-suc-le-zero h)
entry_at_front (a ∷ acts) rest zero h = refl
entry_at_front (a ∷ acts) rest (suc i) h = entry_at_front acts rest i (le_of_suc-le-suc h)

entry_at_next : (acts : List Act) (a : Act) → entry_of a ≡ entry_at (acts ++ a ∷ []) (length acts)
entry_at_next [] a = refl
entry_at_next (b ∷ acts) a = entry_at_next acts a

entry_at_behind : (acts : List Act) (i : ℕ) → length acts ≤ i → entry_at acts i ≡ 0 ∷ 0 ∷ 0 ∷ []
entry_at_behind [] i h = refl
entry_at_behind (a ∷ acts) zero h = absurd (not-suc-le-zero h)
entry_at_behind (a ∷ acts) (suc i) h = entry_at_behind acts i (le_of_suc-le-suc h)

entry_at_take : (m : ℕ) (acts : List Act) (i : ℕ) → i < m → entry_at (take m acts) i ≡ entry_at acts i
entry_at_take zero acts i h = absurd (not-suc-le-zero h)
entry_at_take (suc m) [] i h = refl
entry_at_take (suc m) (a ∷ acts) zero h = refl
entry_at_take (suc m) (a ∷ acts) (suc i) h = entry_at_take m acts i (le_of_suc-le-suc h)

entry_at_at : (acts : List Act) (i : ℕ) (z : Act) → i < length acts → entry_at acts i ≡ entry_of (get_or acts i z)
entry_at_at [] i z h = absurd (not-suc-le-zero h)
entry_at_at (a ∷ acts) zero z h = refl
entry_at_at (a ∷ acts) (suc i) z h = entry_at_at acts i z (le_of_suc-le-suc h)

-- The log of `limit` places.

module _ (limit : ℕ) (acts : List Act) where
  -- an act is logged behind those that stand
  pub log_grows : (a : Act) → over (blocks (entry_at acts) limit) (length acts * 3) (entry_of a) ≡ blocks (entry_at (acts ++ a ∷ [])) limit
  log_grows a =
      over-blocks (entry_at acts) 3 (length_entry_at acts) (entry_at (acts ++ a ∷ [])) limit (length acts) (entry_of a) refl other (entry_at_next acts a)
    where
      other : (i : ℕ) → (i ≡ length acts → ⊥) → entry_at acts i ≡ entry_at (acts ++ a ∷ []) i
      other i n =
          below_cases i (length acts) (λ b. sym (entry_at_front acts (a ∷ []) i b))
          (λ b. entry_at_behind acts i b ∙ sym (entry_at_behind (acts ++ a ∷ []) i (omega (arith, length-append acts (a ∷ [])))))

  -- "the log after act m" becomes zero
  pub log_falls : (m : ℕ) → blank_from (blocks (entry_at acts) limit) (m * 3) ≡ blocks (entry_at (take m acts)) limit
  log_falls m =
      blank-blocks (entry_at acts) 3 (length_entry_at acts) (entry_at (take m acts)) limit m (λ i b. sym (entry_at_take m acts i b))
      (λ i b. entry_at_behind (take m acts) i (omega (arith, length-take m acts)))

  -- any act that stands is read in its place
  pub log_at : {A : Type 0} (f : ℕ → ℕ → ℕ → A) (i : ℕ) (z : Act) → i < length acts → length acts ≤ limit
      → at_act f (blocks (entry_at acts) limit) i ≡ f (kind_of (get_or acts i z)) (first_of (get_or acts i z)) (second_of (get_or acts i z))
  log_at f i z h k = λ t. f ((ap (λ (p : ℕ). get_or l p 0) (sym (add-zero (i * 3))) ∙ byte 0 (omega arith)) t) (byte 1 (omega arith) t) (byte 2 (omega arith) t)
    where
      l : List ℕ
      l = blocks (entry_at acts) limit

      byte : (j : ℕ) → j < 3 → get_or l (i * 3 + j) 0 ≡ get_or (entry_of (get_or acts i z)) j 0
      byte j b =
          sym (part_at l (i * 3) 3 j b)
          ∙ ap (λ (e : List ℕ). get_or e j 0) (part-blocks (entry_at acts) 3 (length_entry_at acts) limit i (omega arith) ∙ entry_at_at acts i z h)

  pub are_formed_log : (from n : ℕ) → AllMeant acts → from + n ≤ length acts → length acts ≤ limit → are_formed (blocks (entry_at acts) limit) from n ≡ true
  unfolding are_formed
  are_formed_log from n m h k =
      every_of (λ i. at_act is_formed (blocks (entry_at acts) limit) (from + i)) n
      (λ i b.
      let c : from + i < length acts = omega arith in
      log_at is_formed (from + i) (pair 0 0) c k ∙ is_formed_entry_of (get_or acts (from + i) (pair 0 0)) (meant_at acts (from + i) (pair 0 0) m c))

  pub act_at_log : (i : ℕ) → i < length acts → length acts ≤ limit → at_act act_of (blocks (entry_at acts) limit) i ≡ get_or acts i (pair 0 0)
  act_at_log i h k = log_at act_of i (pair 0 0) h k ∙ act_of_entry_of (get_or acts i (pair 0 0))
