-- One call on the buffers that acts lead to gives what it owes and leaves the buffers that the acts then standing lead to. Assumes nothing.
use mathlib.Core.Path.{◌≡◌, refl, ap, sym, ◌∙◌}
use mathlib.Core.List.{List, [], ◌∷◌, ◌++◌}
use mathlib.Core.Bool.{Bool, true, false}
use Prim.Native.Nat.{ℕ, ◌+◌, ◌-◌, ◌*◌, ◌/◌, ◌<◌, ◌≤◌}
use native.Mathlib.Nat.{suc-mul, div-mul-le_self, add-sub_of_le}
use native.Mathlib.Omega.{arith}
use borrow.Author.Tests.{ltb-true, eq-eqb}
use lib.Dec.{leb, ltb}
use lib.ListN.{length, take}
use lib.Seq.{length-take-le}
use Rattle.facts.specs.Choice.{pick}
use Rattle.facts.specs.Over.{over}
use Rattle.facts.proofs.Choice.{and_both}
use Rattle.standing.specs.Acts.{Act, pair, select, is_allowed, Meant, entry_of}
use Rattle.standing.specs.Decoder.{Decoder, Lawful}
use Rattle.standing.specs.Calls.{Buffers, three, gives, leaves, done, need, is_sized, is_fit, opened, keep_of, acted_of, give_of, start_of, is_start, is_replayable, replay_of, restored_of, stepped_of, back_of}
use Rattle.standing.specs.Runs.{Ask, give, back, InBytes, stands_by, call_of, owed}
use Rattle.standing.specs.Bytes.{entry_at, desk_of, slot_at, buffers_of}
use Rattle.standing.proofs.Blocks.{length-blocks, zeros_blocks}
use Rattle.standing.proofs.Acts.{length_entry_at, log_grows, log_falls, are_formed_log}
use Rattle.standing.proofs.Desks.{Good, good_take, run_snoc, replay_log, desk_sound, count_desk}
use Rattle.standing.proofs.Slots.{slot_bare, length_slot_at, tray_grows, tray_falls, start_tray}

-- an act that is allowed can stand
pub asked_meant : (a : Act) → InBytes (give a) → is_allowed a ≡ true → Meant a
asked_meant (pair x y) b h = b
asked_meant (select c) b h = h

module _ (D : Decoder) (L : Lawful D) where
  open D use {Desk, fresh, step, count, record_of, read_of, is_valid, size, spacing, slots, limit}
  open L use {step_keeps_sound, count_step, length-record_of, is_valid-record_of, read_of_record_of, spacing_positive}

  -- "Opening writes the fresh record and zeros.": no act stands
  pub opened_buffers : opened D ≡ buffers_of D []
  unfolding opened
  opened_buffers =
      let log = zeros_blocks (entry_at []) 3 limit (λ i. refl) in
      let tray = zeros_blocks (slot_at D []) size slots (λ i. slot_bare D [] i (omega (arith, suc-mul i spacing, spacing_positive))) in
      λ j. three (record_of fresh) (log j) (tray j)

  module _ (acts : List Act) (g : Good D acts) where
    abbrev w : Buffers
    w = buffers_of D acts

    abbrev n : ℕ
    n = length acts

    fit : is_fit D w ≡ true
    unfolding is_sized
    fit =
        and_both (eq-eqb (length w.desk) size (length-record_of (desk_of D acts) (desk_sound D L acts g)))
        (and_both (eq-eqb (length w.log) (limit * 3) (length-blocks (entry_at acts) 3 (length_entry_at acts) limit))
        (eq-eqb (length w.tray) (slots * size) (length-blocks (slot_at D acts) size (length_slot_at D L acts g) slots)))

    valid : is_valid w.desk ≡ true
    valid = is_valid-record_of (desk_of D acts) (desk_sound D L acts g)

    reads : read_of w.desk ≡ desk_of D acts
    reads = read_of_record_of (desk_of D acts) (desk_sound D L acts g)

    counts : count (read_of w.desk) ≡ n
    counts = ap count reads ∙ count_desk D L acts g

    -- an act is done
    act_done : (a : Act) → n < limit → Meant a → acted_of D w a ≡ done (n + 1) (buffers_of D (acts ++ a ∷ []))
    unfolding acted_of
    act_done a room m =
        let e : Desk = step (desk_of D acts) a in
        let s = desk_sound D L acts g in
        let k : count (desk_of D acts) ≡ n = count_desk D L acts g in
        let c : count e ≡ n + 1 = count_step (desk_of D acts) a s (omega arith) m ∙ ap (λ (j : ℕ). j + 1) k in
        let z = length-record_of e (step_keeps_sound (desk_of D acts) a s (omega arith) m) in
        let desk = sym (run_snoc D fresh acts a) in
        let log = ap (λ (j : ℕ). over w.log (j * 3) (entry_of a)) k ∙ log_grows limit acts a in
        let tray = ap (λ (j : ℕ). keep_of D w.tray j (record_of e)) c ∙ tray_grows D L acts g a z in
        rw reads (λ i. done (c i) (three (record_of (desk i)) (log i) (tray i)))

    -- m acts are left standing
    module _ (m : ℕ) (down : m ≤ n) where
      abbrev from : ℕ
      from = m / spacing * spacing

      abbrev front : List Act
      front = take from acts

      front_good : Good D front
      front_good = good_take D from acts g

      from_le : from ≤ m
      from_le = div-mul-le_self m spacing

      start : start_of D w.tray (m / spacing) ≡ record_of (desk_of D front)
      start = start_tray D L acts g (m / spacing) (omega (arith, from_le))

      start_reads : read_of (record_of (desk_of D front)) ≡ desk_of D front
      start_reads = read_of_record_of (desk_of D front) (desk_sound D L front front_good)

      replayable : is_replayable D w.log w.tray m ≡ true
      unfolding is_replayable is_start
      replayable =
          let c = ap count start_reads ∙ count_desk D L front front_good ∙ length-take-le from acts (omega (arith, from_le)) in
          and_both
          (ap (λ (r : List ℕ). is_start D r (m / spacing)) start
          ∙ and_both (is_valid-record_of (desk_of D front) (desk_sound D L front front_good)) (eq-eqb (count (read_of (record_of (desk_of D front)))) from c))
          (are_formed_log limit acts from (m - from) g.meant (omega (arith, from_le)) g.few)

      restored : restored_of D w.log w.tray m ≡ desk_of D (take m acts)
      unfolding restored_of
      restored =
          ap (λ (r : List ℕ). replay_of D (read_of r) w.log from (m - from)) start ∙ ap (λ (d : Desk). replay_of D d w.log from (m - from)) start_reads
          ∙ replay_log D acts from (m - from) (omega (arith, from_le)) g.few ∙ ap (λ (k : ℕ). desk_of D (take k acts)) (add-sub_of_le from_le)

      back_done : stepped_of D w m ≡ done m (buffers_of D (take m acts))
      unfolding stepped_of
      back_done = λ i. done m (three (record_of (restored i)) (log_falls limit acts m i) (tray_falls D L acts g m down i))

    -- a call gives what it owes, and leaves what the acts then standing lead to
    pub next_call : (a : Ask) → InBytes a → call_of D w a ≡ leaves (owed D acts a) (buffers_of D (stands_by (owed D acts a) acts a))
    unfolding call_of owed give_of back_of
    next_call (give a) b = simp (fit, valid, counts) (go (is_allowed a) (ltb n limit) refl refl)
      where
        go : (h r : Bool) → is_allowed a ≡ h → ltb n limit ≡ r
            → let o = pick h (pick r (gives 0 (n + 1)) (gives 3 0)) (gives 2 0) in
            need h 2 w (need r 3 w (acted_of D w a)) ≡ leaves o (buffers_of D (stands_by o acts (give a)))
        go true true h r = act_done a (ltb-true n limit r) (asked_meant a b h)
        go true false h r = refl
        go false r h e = refl
    next_call (back k) b = simp (fit, valid, counts) (go (leb k n) refl)
      where
        go : (h : Bool) → leb k n ≡ h
            → let o = pick h (gives 0 (n - k)) (gives 4 0) in
            need h 4 w (need (is_replayable D w.log w.tray (n - k)) 6 w (stepped_of D w (n - k))) ≡ leaves o (buffers_of D (stands_by o acts (back k)))
        go true h = rw (replayable (n - k) (omega arith)) (back_done (n - k) (omega arith))
        go false h = refl
