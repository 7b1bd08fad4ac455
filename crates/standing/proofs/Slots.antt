-- The tray of the records that acts lead to: it grows by a slot where one is due, falls back, and is read at any slot. Assumes nothing.
use mathlib.Core.Path.{◌≡◌, ap, sym, ◌∙◌}
use mathlib.Core.List.{List, [], ◌∷◌, ◌++◌}
use Prim.Native.Nat.{ℕ, zero, suc, ◌+◌, ◌-◌, ◌*◌, ◌/◌, ◌%◌, ◌<◌, ◌≤◌}
use native.Mathlib.Nat.{zero-mul, mul-mod_left, mul-div_cancel, div-add-mod', le-div_iff_mul-le, div-lt_iff_lt-mul, div-eq_of_eq-mul_left, le_trans}
use native.Mathlib.Omega.{arith}
use borrow.Author.Tests.{le-leb, lt-leb, eqb-true, eqb-false, ne_eqb}
use lib.Dec.{eqb, leb}
use lib.ListN.{length, take, replicate, length-append, length-replicate}
use lib.Seq.{take_all, take-take, take-append-le, length-take-le}
use Rattle.facts.specs.Over.{over}
use Rattle.facts.proofs.Choice.{pick_cases, below_cases}
use Rattle.standing.specs.Acts.{Act}
use Rattle.standing.specs.Decoder.{Decoder, Lawful}
use Rattle.standing.specs.Calls.{blank_from, keep_of, start_of}
use Rattle.standing.specs.Bytes.{blocks, desk_of, slot_at}
use Rattle.standing.proofs.Blocks.{blocks_same, part-blocks, over-blocks, blank-blocks}
use Rattle.standing.proofs.Desks.{Good, good_take, run_snoc, desk_sound}

-- n + 1 acts in whole thousands: the last of these is the slot to be kept
whole : (spacing n : ℕ) → (n + 1) % spacing ≡ 0 → suc ((n + 1) / spacing - 1) * spacing ≡ n + 1
whole spacing n e = go ((n + 1) / spacing) (omega (arith, div-add-mod' (n + 1) spacing))
  where
    go : (q : ℕ) → q * spacing ≡ n + 1 → suc (q - 1) * spacing ≡ n + 1
    go zero h = absurd (omega (arith, zero-mul spacing))
    go (suc q) h = let f : suc q - 1 ≡ q = omega arith in rw f h

module _ (D : Decoder) where
  open D use {fresh, step, record_of, size, spacing, slots}

  -- a slot that was reached, and one that was not
  slot_kept : (acts : List Act) (i : ℕ) → suc i * spacing ≤ length acts → slot_at D acts i ≡ record_of (desk_of D (take (suc i * spacing) acts))
  slot_kept acts i h = rw (le-leb (suc i * spacing) (length acts) h)

  pub slot_bare : (acts : List Act) (i : ℕ) → length acts < suc i * spacing → slot_at D acts i ≡ replicate size 0
  slot_bare acts i h = rw (lt-leb (suc i * spacing) (length acts) h)

  -- one act more changes no slot but the one that it reaches
  slot_stays : (acts : List Act) (a : Act) (i : ℕ) → (suc i * spacing ≡ length acts + 1 → ⊥) → slot_at D acts i ≡ slot_at D (acts ++ a ∷ []) i
  slot_stays acts a i n =
      let l : length (acts ++ a ∷ []) ≡ length acts + 1 = length-append acts (a ∷ []) in
      below_cases (length acts) (suc i * spacing)
      (λ b. slot_bare acts i b ∙ sym (slot_bare (acts ++ a ∷ []) i (omega arith)))
      (λ b.
      slot_kept acts i b
      ∙ ap (λ (x : List Act). record_of (desk_of D x)) (sym (take-append-le (suc i * spacing) acts (a ∷ []) b))
      ∙ sym (slot_kept (acts ++ a ∷ []) i (omega arith)))

  module _ (L : Lawful D) where
    open L use {length-record_of, spacing_positive, slots_enough}

    -- slots that the same count reaches are the same
    same_slot : (i s : ℕ) → suc i * spacing ≡ suc s * spacing → i ≡ s
    same_slot i s e =
        let f : suc i * spacing / spacing ≡ suc s = div-eq_of_eq-mul_left spacing_positive e in
        let h : suc i * spacing / spacing ≡ suc i = mul-div_cancel (suc i) spacing_positive in
        omega arith

    pub length_slot_at : (acts : List Act) → Good D acts → (i : ℕ) → length (slot_at D acts i) ≡ size
    length_slot_at acts g i =
        let front = take (suc i * spacing) acts in
        pick_cases (λ (r : List ℕ). length r ≡ size) (leb (suc i * spacing) (length acts))
        (λ e. length-record_of (desk_of D front) (desk_sound D L front (good_take D (suc i * spacing) acts g)))
        (λ e. length-replicate size 0)

    module _ (acts : List Act) (g : Good D acts) where
      abbrev tray : List ℕ
      tray = blocks (slot_at D acts) slots

      -- "When the act count reaches 1,000 times s, the record is kept in slot s."
      module _ (a : Act) (sized : length (record_of (step (desk_of D acts) a)) ≡ size) where
        abbrev more : List Act
        more = acts ++ a ∷ []

        more_length : length more ≡ length acts + 1
        more_length = length-append acts (a ∷ [])

        slot_fills : (s : ℕ) → suc s * spacing ≡ length acts + 1
            → over tray (s * size) (record_of (step (desk_of D acts) a)) ≡ blocks (slot_at D more) slots
        slot_fills s w =
            let all : take (suc s * spacing) more ≡ more = take_all (suc s * spacing) more (omega (arith, more_length)) in
            let this = ap record_of (sym (run_snoc D fresh acts a)) ∙ ap (λ (x : List Act). record_of (desk_of D x)) (sym all) in
            over-blocks (slot_at D acts) size (length_slot_at acts g) (slot_at D more) slots s (record_of (step (desk_of D acts) a)) sized
            (λ i o. slot_stays acts a i (λ q. o (same_slot i s (q ∙ sym w))))
            (this ∙ sym (slot_kept more s (omega (arith, more_length))))

        slots_stay : ((length acts + 1) % spacing ≡ 0 → ⊥) → tray ≡ blocks (slot_at D more) slots
        slots_stay h =
            blocks_same (slot_at D acts) (slot_at D more) slots
            (λ i b. slot_stays acts a i (λ q. h (ap (λ (m : ℕ). m % spacing) (sym q) ∙ mul-mod_left (suc i) spacing)))

        pub tray_grows : keep_of D tray (length acts + 1) (record_of (step (desk_of D acts) a)) ≡ blocks (slot_at D more) slots
        unfolding keep_of
        tray_grows =
            pick_cases (λ (t : List ℕ). t ≡ blocks (slot_at D more) slots) (eqb ((length acts + 1) % spacing) 0)
            (λ e. slot_fills ((length acts + 1) / spacing - 1) (whole spacing (length acts) (eqb-true ((length acts + 1) % spacing) 0 e)))
            (λ e. slots_stay (eqb-false ((length acts + 1) % spacing) 0 e))

      -- "slots above s become zero"
      pub tray_falls : (m : ℕ) → m ≤ length acts → blank_from tray (m / spacing * size) ≡ blocks (slot_at D (take m acts)) slots
      tray_falls m h = blank-blocks (slot_at D acts) size (length_slot_at acts g) (slot_at D (take m acts)) slots (m / spacing) low high
        where
          l : length (take m acts) ≡ m
          l = length-take-le m acts h

          low : (i : ℕ) → i < m / spacing → slot_at D acts i ≡ slot_at D (take m acts) i
          low i b =
              let c : suc i * spacing ≤ m = (le-div_iff_mul-le spacing_positive).0 b in
              slot_kept acts i (omega arith) ∙ ap (λ (x : List Act). record_of (desk_of D x)) (sym (take-take (suc i * spacing) m acts c))
              ∙ sym (slot_kept (take m acts) i (omega (arith, l)))

          high : (i : ℕ) → m / spacing ≤ i → slot_at D (take m acts) i ≡ replicate size 0
          high i b =
              let c : m < suc i * spacing = (div-lt_iff_lt-mul spacing_positive).0 (omega arith) in
              slot_bare (take m acts) i (omega (arith, l))

      -- slot s has the record after its acts, and slot 0 is the fresh one
      pub start_tray : (s : ℕ) → s * spacing ≤ length acts → start_of D tray s ≡ record_of (desk_of D (take (s * spacing) acts))
      unfolding start_of
      start_tray zero h = ap (λ (m : ℕ). record_of (desk_of D (take m acts))) (sym (zero-mul spacing))
      start_tray (suc s) h =
          let e : suc s - 1 ≡ s = omega arith in
          let b : suc s ≤ slots = le_trans ((le-div_iff_mul-le spacing_positive).1 (omega (arith, g.few))) slots_enough in
          rw (ne_eqb (suc s) 0 (λ q. omega arith), e) (part-blocks (slot_at D acts) size (length_slot_at acts g) slots s b ∙ slot_kept acts s h)
