-- What is done within a call: a slot is kept, a start is found and tested, and one turn of the loops that test and replay the acts.
-- Assumes nothing.
use mathlib.Core.Path.{◌≡◌, refl, ap, sym, ◌∙◌}
use mathlib.Core.List.{List, [], ◌∷◌}
use mathlib.Core.Bool.{Bool, true, ◌&&◌}
use Prim.Native.Nat.{ℕ, zero, suc, ◌+◌, ◌-◌, ◌*◌, ◌/◌, ◌%◌, ◌<◌, ◌≤◌}
use native.Mathlib.Nat.{add-zero, zero-mul, add-sub_cancel_left}
use native.Mathlib.Numerals.{add-one}
use native.Mathlib.Omega.{arith}
use borrow.Author.Tests.{eq-eqb, ne_eqb, eqb-true}
use lib.Dec.{eqb}
use lib.ListN.{length, get_or}
use Rattle.facts.specs.Over.{over, part}
use Rattle.facts.proofs.Choice.{and_left, and_right, and_both}
use Rattle.facts.proofs.Every.{every_at, every_more}
use Rattle.facts.proofs.Over.{in_over}
use Rattle.standing.specs.Acts.{act_of, is_formed, at_act, are_formed}
use Rattle.standing.specs.Decoder.{Decoder, Lawful}
use Rattle.standing.specs.Calls.{keep_of, start_of, is_start, is_replayable, replay_of, restored_of}
use Rattle.standing.proofs.Acts.{is_formed_meant}

-- The loop that tests n acts behind the first `from`.
module _ (l : List ℕ) (from : ℕ) where
  pub are_formed_none : true ≡ are_formed l from 0
  unfolding are_formed
  are_formed_none = refl

  pub are_formed_more : (n : ℕ) {ok more : Bool} → ok ≡ are_formed l from n → more ≡ at_act is_formed l (from + n) → (ok && more) ≡ are_formed l from (n + 1)
  unfolding are_formed
  are_formed_more n {ok} p q = ap (λ (t : Bool). ok && t) q ∙ every_more (λ i. at_act is_formed l (from + i)) n p

  pub are_formed_at : (n i : ℕ) → are_formed l from n ≡ true → i < n → at_act is_formed l (from + i) ≡ true
  unfolding are_formed
  are_formed_at n i h b = every_at (λ i. at_act is_formed l (from + i)) n h i b

-- An act written behind the first n is the one that is read there.
module _ (l : List ℕ) (n kind first second : ℕ) (room : n * 3 + 3 ≤ length l) where
  abbrev logged : List ℕ
  logged = over l (n * 3) (kind ∷ first ∷ second ∷ [])

  logged_at : {A : Type 0} (f : ℕ → ℕ → ℕ → A) → at_act f logged (n + 0) ≡ f kind first second
  logged_at f = ap (at_act f logged) (add-zero n) ∙ (λ i. f ((ap (λ (p : ℕ). get_or logged p 0) (sym (add-zero (n * 3))) ∙ byte 0 (omega arith)) i) (byte 1 (omega arith) i) (byte 2 (omega arith) i))
    where
      byte : (j : ℕ) → j < 3 → get_or logged (n * 3 + j) 0 ≡ get_or (kind ∷ first ∷ second ∷ []) j 0
      byte j h = in_over l (n * 3) (kind ∷ first ∷ second ∷ []) j (omega arith) h

  pub logged_formed : is_formed kind first second ≡ true → are_formed logged n 1 ≡ true
  logged_formed h = sym (are_formed_more logged n 0 (are_formed_none logged n) (sym (logged_at is_formed ∙ h)))

  pub logged_replayed : (D : Decoder) (d : D.Desk) → replay_of D d logged n 1 ≡ D.step d (act_of kind first second)
  unfolding replay_of
  logged_replayed D d = ap (D.step d) (logged_at act_of)

module _ (D : Decoder) where
  open D use {Desk, fresh, step, count, record_of, read_of, is_valid, size, spacing, limit}

  -- "the record is kept in slot s", and where no slot is due
  pub keep_slot : (t : List ℕ) (n : ℕ) (r : List ℕ) → n % spacing ≡ 0 → over t ((n / spacing - 1) * size) r ≡ keep_of D t n r
  unfolding keep_of
  keep_slot t n r h = simp (eq-eqb (n % spacing) 0 h)

  pub keep_none : (t : List ℕ) (n : ℕ) (r : List ℕ) → (n % spacing ≡ 0 → ⊥) → t ≡ keep_of D t n r
  unfolding keep_of
  keep_none t n r h = simp (ne_eqb (n % spacing) 0 h)

  -- "the start is slot s, .. or the fresh record if s is 0"
  pub start_fresh : (t : List ℕ) (s : ℕ) → s ≡ 0 → record_of fresh ≡ start_of D t s
  unfolding start_of
  start_fresh t s h = simp (eq-eqb s 0 h)

  -- the slot as code lends it, from its first byte to behind its last
  pub start_slot : (t : List ℕ) (s : ℕ) → (s ≡ 0 → ⊥) → part t ((s - 1) * size) ((s - 1) * size + size - (s - 1) * size) ≡ start_of D t s
  unfolding start_of
  start_slot t s h = simp (ne_eqb s 0 h, add-sub_cancel_left)

  -- "It must be valid with count 1,000 times s, and the acts from there to m must be well formed."
  pub is_start_of : (r : List ℕ) (s : ℕ) {ok : Bool} {n : ℕ} → ok ≡ is_valid r → n ≡ count (read_of r) → (ok && eqb n (s * spacing)) ≡ is_start D r s
  unfolding is_start
  is_start_of r s p q = λ i. p i && eqb (q i) (s * spacing)

  pub is_start_valid : (r : List ℕ) (s : ℕ) → is_start D r s ≡ true → is_valid r ≡ true
  unfolding is_start
  is_start_valid r s h = and_left (is_valid r) (eqb (count (read_of r)) (s * spacing)) h

  pub is_start_count : (r : List ℕ) (s : ℕ) → is_start D r s ≡ true → count (read_of r) ≡ s * spacing
  unfolding is_start
  is_start_count r s h = eqb-true (count (read_of r)) (s * spacing) (and_right (is_valid r) (eqb (count (read_of r)) (s * spacing)) h)

  module _ (l t : List ℕ) (m s : ℕ) (e : s ≡ m / spacing) where
    pub is_replayable_of : {ok formed : Bool} → ok ≡ is_start D (start_of D t s) s → formed ≡ are_formed l (s * spacing) (m - s * spacing)
        → (ok && formed) ≡ is_replayable D l t m
    unfolding is_replayable
    is_replayable_of p q =
        (λ i. p i && q i) ∙ ap (λ (s : ℕ). is_start D (start_of D t s) s && are_formed l (s * spacing) (m - s * spacing)) e

    pub is_replayable_start : is_replayable D l t m ≡ true → is_start D (start_of D t s) s ≡ true
    is_replayable_start h = and_left (is_start D (start_of D t s) s) (are_formed l (s * spacing) (m - s * spacing)) (is_replayable_of refl refl ∙ h)

    pub is_replayable_formed : is_replayable D l t m ≡ true → are_formed l (s * spacing) (m - s * spacing) ≡ true
    is_replayable_formed h = and_right (is_start D (start_of D t s) s) (are_formed l (s * spacing) (m - s * spacing)) (is_replayable_of refl refl ∙ h)

    pub restored_of_lem : {d : Desk} → d ≡ replay_of D (read_of (start_of D t s)) l (s * spacing) (m - s * spacing) → d ≡ restored_of D l t m
    unfolding restored_of
    restored_of_lem p = p ∙ ap (λ (s : ℕ). replay_of D (read_of (start_of D t s)) l (s * spacing) (m - s * spacing)) e

  -- The loop that replays n acts behind the first `from`.
  module _ (d : Desk) (l : List ℕ) (from : ℕ) where
    pub replay_none : d ≡ replay_of D d l from 0
    unfolding replay_of
    replay_none = refl

    pub replay_more : (n : ℕ) {e next : Desk} → e ≡ replay_of D d l from n → next ≡ step e (at_act act_of l (from + n)) → next ≡ replay_of D d l from (n + 1)
    unfolding replay_of
    replay_more n p q = q ∙ ap (λ (e : Desk). step e (at_act act_of l (from + n))) p ∙ ap (replay_of D d l from) (sym (add-one n))

  module _ (L : Lawful D) where
    open L use {Sound, fresh_sound, count_fresh, step_keeps_sound, count_step, is_valid-record_of, read_of_record_of}

    -- the fresh record is a start
    pub is_start_fresh : is_start D (record_of fresh) 0 ≡ true
    unfolding is_start
    is_start_fresh =
        and_both (is_valid-record_of fresh fresh_sound)
        (eq-eqb (count (read_of (record_of fresh))) (0 * spacing) (ap count (read_of_record_of fresh fresh_sound) ∙ count_fresh ∙ sym (zero-mul spacing)))

    -- a replay of well formed acts, all or the first n of them, keeps a desk sound and counts them
    module _ (d : Desk) (l : List ℕ) (from all : ℕ) (sound : Sound d) (room : count d + all ≤ limit) (bytes : (i : ℕ) → get_or l i 0 < 256)
        (formed : are_formed l from all ≡ true) where
      pub replay_keeps_sound : (n : ℕ) → n ≤ all → Sound (replay_of D d l from n) × (count (replay_of D d l from n) ≡ count d + n)
      unfolding replay_of
      replay_keeps_sound zero h = (sound, sym (add-zero (count d)))
      replay_keeps_sound (suc n) h =
          let i = (from + n) * 3 in
          let m = is_formed_meant (get_or l i 0) (get_or l (i + 1) 0) (get_or l (i + 2) 0) (are_formed_at l from all n formed h) (bytes (i + 1)) (bytes (i + 2)) in
          let r = replay_keeps_sound n (omega arith) in
          let e = replay_of D d l from n in
          let c = count_step e (at_act act_of l (from + n)) r.0 (omega arith) m in
          (step_keeps_sound e (at_act act_of l (from + n)) r.0 (omega arith) m, omega arith)
