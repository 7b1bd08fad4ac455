-- A law for each way out of each call, and that no second outcome meets a call: what code over these definitions cites.
-- Take and select are `give_of` of a pair and of a selection. Assumes nothing.
use mathlib.Core.Path.{◌≡◌, ap, sym, ◌∙◌}
use mathlib.Core.List.{List}
use mathlib.Core.Bool.{true, false, ◌&&◌}
use Prim.Native.Nat.{ℕ, ◌-◌, ◌*◌, ◌/◌, ◌<◌, ◌≤◌}
use borrow.Author.Tests.{lt-ltb, le-ltb, le-leb, lt-leb, eqb-true}
use lib.Dec.{eqb}
use lib.ListN.{length, replicate}
use Rattle.facts.specs.Over.{over}
use Rattle.facts.proofs.Choice.{and_left, and_right}
use Rattle.standing.specs.Acts.{Act, is_allowed, entry_of}
use Rattle.standing.specs.Decoder.{Decoder}
use Rattle.standing.specs.Calls.{Buffers, three, Outcome, done, refused, blank_from, is_sized, is_fit, opened, open_of, keep_of, acted_of, give_of, take_of, select_of, is_replayable, restored_of, stepped_of, back_of}

module _ (D : Decoder) where
  open D use {fresh, step, count, record_of, read_of, is_valid, size, spacing, slots, limit}

  -- the lengths of buffers that fit
  pub record Sized (d l t : ℕ) : Type 0 where
    pub desk-size : d ≡ size
    pub log_size : l ≡ limit * 3
    pub tray_size : t ≡ slots * size

  pub is_sized_sizes : (d l t : ℕ) → is_sized D d l t ≡ true → Sized d l t
  unfolding is_sized
  is_sized_sizes d l t e =
      let rest = and_right (eqb d size) (eqb l (limit * 3) && eqb t (slots * size)) e in
      record {
        desk-size = eqb-true d size (and_left (eqb d size) (eqb l (limit * 3) && eqb t (slots * size)) e);
        log_size = eqb-true l (limit * 3) (and_left (eqb l (limit * 3)) (eqb t (slots * size)) rest);
        tray_size = eqb-true t (slots * size) (and_right (eqb l (limit * 3)) (eqb t (slots * size)) rest);
      }

  module _ (w : Buffers) where
    -- 1: "a lent buffer has a wrong length"
    module _ (unfit : is_fit D w ≡ false) where
      pub open_unfit : refused 1 w ≡ open_of D w.desk w.log w.tray
      unfolding open_of
      open_unfit = simp unfit

      pub give_unfit : (a : Act) → refused 1 w ≡ give_of D w a
      unfolding give_of
      give_unfit a = simp unfit

      pub back_unfit : (k : ℕ) → refused 1 w ≡ back_of D w.desk w.log w.tray k
      unfolding back_of
      back_unfit k = simp unfit

    module _ (fit : is_fit D w ≡ true) where
      pub open_done : {d l t : List ℕ} → d ≡ record_of fresh → l ≡ replicate (length w.log) 0 → t ≡ replicate (length w.tray) 0
          → done 0 (three d l t) ≡ open_of D w.desk w.log w.tray
      unfolding open_of opened
      open_done p q r =
          let z = is_sized_sizes (length w.desk) (length w.log) (length w.tray) fit in
          let log = q ∙ ap (λ (n : ℕ). replicate {A = ℕ} n 0) z.log_size in
          let tray = r ∙ ap (λ (n : ℕ). replicate {A = ℕ} n 0) z.tray_size in
          simp fit (λ i. done 0 (three (p i) (log i) (tray i)))

      -- 6: "desk invalid"
      module _ (invalid : is_valid w.desk ≡ false) where
        pub give_invalid : (a : Act) → refused 6 w ≡ give_of D w a
        unfolding give_of
        give_invalid a = simp (fit, invalid)

        pub back_invalid : (k : ℕ) → refused 6 w ≡ back_of D w.desk w.log w.tray k
        unfolding back_of
        back_invalid k = simp (fit, invalid)

      -- 2: "channel not 1–2"
      pub give_no_channel : (a : Act) → is_valid w.desk ≡ true → is_allowed a ≡ false → refused 2 w ≡ give_of D w a
      unfolding give_of
      give_no_channel a valid h = simp (fit, valid, h)

      -- n is the count that was found
      module _ (valid : is_valid w.desk ≡ true) (n : ℕ) (found : n ≡ count (read_of w.desk)) where
        module _ (a : Act) where
          -- 3: "16,000 acts stand already"
          pub give_full : is_allowed a ≡ true → limit ≤ n → refused 3 w ≡ give_of D w a
          unfolding give_of
          give_full h k = simp (fit, valid, h, ← found, le-ltb n limit k)

          -- 0: m is the new count, d, l and t what the buffers now hold
          pub give_done : {m : ℕ} {d l t : List ℕ} → is_allowed a ≡ true → n < limit
              → m ≡ count (step (read_of w.desk) a) → d ≡ record_of (step (read_of w.desk) a)
              → l ≡ over w.log (n * 3) (entry_of a) → t ≡ keep_of D w.tray m d → done m (three d l t) ≡ give_of D w a
          unfolding give_of acted_of
          give_done h k p q r u =
              simp (fit, valid, h, ← found, lt-ltb n limit k) (λ i. done (p i) (three (q i) (r i) ((u ∙ (λ j. keep_of D w.tray (p j) (q j))) i)))

        module _ (k : ℕ) where
          -- 4: "back by more than stand"
          pub back_beyond : n < k → refused 4 w ≡ back_of D w.desk w.log w.tray k
          unfolding back_of
          back_beyond h = simp (fit, valid, ← found, lt-leb k n h)

          -- 6: "in back, start or a needed act invalid"
          pub back_broken : k ≤ n → is_replayable D w.log w.tray (n - k) ≡ false → refused 6 w ≡ back_of D w.desk w.log w.tray k
          unfolding back_of
          back_broken h b = simp (fit, valid, ← found, le-leb k n h, b)

          pub back_done : {d l t : List ℕ} → k ≤ n → is_replayable D w.log w.tray (n - k) ≡ true
              → d ≡ record_of (restored_of D w.log w.tray (n - k)) → l ≡ blank_from w.log ((n - k) * 3) → t ≡ blank_from w.tray ((n - k) / spacing * size)
              → done (n - k) (three d l t) ≡ back_of D w.desk w.log w.tray k
          unfolding back_of stepped_of
          back_done h b p q r = simp (fit, valid, ← found, le-leb k n h, b) (λ i. done (n - k) (three (p i) (q i) (r i)))

-- "no second answer fits"
module _ (D : Decoder) (d l t : List ℕ) (one two : Outcome) where
  pub open_only : one ≡ open_of D d l t → two ≡ open_of D d l t → one ≡ two
  open_only p q = p ∙ sym q

  pub take_only : (x y : ℕ) → one ≡ take_of D d l t x y → two ≡ take_of D d l t x y → one ≡ two
  take_only x y p q = p ∙ sym q

  pub select_only : (c : ℕ) → one ≡ select_of D d l t c → two ≡ select_of D d l t c → one ≡ two
  select_only c p q = p ∙ sym q

  pub back_only : (k : ℕ) → one ≡ back_of D d l t k → two ≡ back_of D d l t k → one ≡ two
  back_only k p q = p ∙ sym q
