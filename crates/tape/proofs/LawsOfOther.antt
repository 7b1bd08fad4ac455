-- What a desk makes of the other channel's cues: nothing that is displayed changes, behind none of their pairs. Assumes nothing.
use mathlib.Core.Path.{◌≡◌, refl, sym, ap, subst, ◌∙◌}
use mathlib.Core.Bool.{Bool, true, false, ◌&&◌}
use mathlib.Core.List.{List, [], ◌∷◌, ◌++◌, append-nil}
use Prim.Native.Nat.{ℕ, zero, suc, ◌+◌, ◌-◌, ◌*◌, ◌<◌, ◌≤◌}
use native.Mathlib.Omega.{arith}
use lib.Dec.{eqb, leb, ltb}
use lib.ListN.{get_or, replicate}
use borrow.Author.Tests.{lt-ltb, le-ltb, ne_eqb, eqb-false, leb-true, leb-false, ltb-true, ltb-false}
use Rattle.facts.proofs.Choice.{pick_cases, and_left, and_right}
use Rattle.facts.proofs.Every.{every_at}
use Rattle.wire.specs.Byte.{is_good, low_seven, sent_of}
use Rattle.wire.specs.Reel.{pairs_of}
use Rattle.wire.proofs.LawsOfSent.{low_seven-sent_of}
use Rattle.codes.specs.Codes.{code_of, channel_of}
use Rattle.codes.specs.Assigned.{is_unassigned}
use Rattle.state.specs.State.{Captions, Desk}
use Rattle.decode.specs.Pair.{captions_of, cleared_of, type_of, as_text_of, is_damaged_repeat, rule_one_of, rule_two_of, is_passed_over, control_of, rule_three_of, rule_four_of, pair_of}
use Rattle.decode.specs.Step.{counted, taken_of}
use Rattle.decode.specs.Play.{displayed_of, film_of}
use Rattle.lines.specs.Span.{lead_of, end_of}
use Rattle.lines.proofs.Printed.{end_of_last}
use Rattle.record.specs.Layout.{code_at}
use Rattle.tape.specs.declared.Item.{Item}
use Rattle.tape.specs.Item.{item, rcl_item, enm_item, is_plain, gap_of, next_item_of, bytes_of}
use Rattle.tape.specs.Preamble.{firsts, preamble_item_of}
use Rattle.tape.specs.Writable.{are_cells, row_pen_of, is_writable}
use Rattle.tape.specs.Tape.{code_before, item_at, items_of, rest_of, filled_row_of, row_tape_of, rows_tape_of, loading_of, tape_of}
use Rattle.tape.specs.Programme.{nulls_of, show, clear, cue_of}
use Rattle.tape.proofs.LawsOfPairs.{Follows, Control, pair_control, pass_over}
use Rattle.tape.proofs.LawsOfCodes.{channel_of_own, tuned, code_rcl, code_edm}
use Rattle.tape.proofs.LawsOfRows.{before_here}
use Rattle.tape.proofs.LawsOfWritable.{code_kinds, fine}

-- Which pairs a channel's cues are made of.

-- the first byte of a pair that is text, or a control pair of the channel; and whole pairs, each of them such a one
abbrev IsOf : ℕ → ℕ → Type 0
IsOf channel x = 0x10 ≤ low_seven x → low_seven x < 0x20 → channel_of (low_seven x) ≡ channel

abbrev AreOf : ℕ → List ℕ → Type 0
AreOf channel [] = Unit
AreOf channel (x ∷ []) = ⊥
AreOf channel (x ∷ y ∷ more) = IsOf channel x × AreOf channel more

-- the first value of a row's preamble is one of channel 1
abbrev is_first : ℕ → Bool
is_first row = leb 0x10 (get_or firsts row 0) && leb (get_or firsts row 0) 0x17

module _ (channel : ℕ) (cl : 1 ≤ channel) (cu : channel ≤ 2) where
  of_then : (s t : List ℕ) → AreOf channel s → AreOf channel t → AreOf channel (s ++ t)
  of_then [] t p q = q
  of_then (x ∷ []) t p q = absurd p
  of_then (x ∷ y ∷ more) t p q = (p.0, of_then more t p.1 q)

  control_of_lem : (a b n : ℕ) → 0x10 ≤ a → a ≤ 0x17 → AreOf channel (bytes_of channel (item a b n))
  unfolding bytes_of
  control_of_lem a b n al au =
      let low = low_seven-sent_of (a + (channel - 1) * 8) (omega arith) in
      let own = ap channel_of low ∙ channel_of_own channel a cl cu al au in
      rw (lt-ltb a 0x20 (omega arith)) (λ l h. own, (λ l h. own, tt))

  text_of : (a b n : ℕ) → 0x20 ≤ a → a < 128 → AreOf channel (bytes_of channel (item a b n))
  unfolding bytes_of
  text_of a b n al au = let low = low_seven-sent_of a au in rw (le-ltb a 0x20 al) (λ l h. absurd (omega arith), tt)

  nulls_of_lem : (n : ℕ) → AreOf channel (nulls_of n)
  unfolding low_seven
  nulls_of_lem zero = tt
  nulls_of_lem (suc n) = (λ l h. absurd (omega arith), nulls_of_lem n)

  module _ (memory : List ℕ) (valid : are_cells memory ≡ true) (writable : is_writable memory ≡ true) where
    item_of : (row end k : ℕ) → row < 15 → k < end → end ≤ 32 → AreOf channel (bytes_of channel (item_at memory (row * 64) end k))
    unfolding next_item_of
    item_of row end k down h wide =
        let f = fine memory row down valid writable in
        let code = code_at memory (row * 64) k in
        let next = code_before memory (row * 64) end (k + 1) in
        let after = code_before memory (row * 64) end (k + 2) in
        let Of : Item → Type 0 = λ i. AreOf channel (bytes_of channel i) in
        subst (λ (x : ℕ). Of (next_item_of x next after)) (sym (before_here memory (row * 64) end k h))
        (pick_cases Of (eqb code 0) (λ t. control_of_lem 0x17 (0x20 + gap_of next after) (gap_of next after) (omega arith) (omega arith))
        (λ t. pick_cases Of (leb 0x90 code) (λ u. control_of_lem 0x11 (code - 0x60) 1 (omega arith) (omega arith))
        (λ u.
        let plain = leb-false 0x90 code u in
        code_kinds code (f.code k (omega arith)) (eqb-false code 0 t) (f.other k (omega arith))
        (λ low high. pick_cases Of (is_plain next) (λ v. text_of code next 2 low (omega arith)) (λ v. text_of code 0 1 low (omega arith))) (λ low high. absurd (omega arith)))))

    items_of_lem : (row end : ℕ) → row < 15 → end ≤ 32 → (k most : ℕ) → AreOf channel (items_of channel memory (row * 64) end k most)
    items_of_lem row end down wide k zero = tt
    items_of_lem row end down wide k (suc most) =
        let i = item_at memory (row * 64) end k in
        pick_cases (AreOf channel) (ltb k end)
        (λ t. of_then (bytes_of channel i) _ (item_of row end k down (ltb-true k end t) wide) (items_of_lem row end down wide (k + i.columns) most)) (λ t. tt)

    row_of : (row : ℕ) → row < 15 → AreOf channel (row_tape_of channel memory row)
    unfolding row_tape_of filled_row_of rest_of preamble_item_of
    row_of row down =
        let end = end_of memory (row * 64) 32 in
        let i = preamble_item_of row (row_pen_of memory (row * 64)) (lead_of memory (row * 64) 32) in
        let first = every_at is_first 15 refl row down in
        pick_cases (AreOf channel) (eqb end 0) (λ t. tt)
        (λ t. of_then (bytes_of channel i) _
        (control_of_lem i.first i.second i.columns (leb-true 0x10 i.first (and_left (leb 0x10 i.first) _ first)) (leb-true i.first 0x17 (and_right (leb 0x10 i.first) _ first)))
        (items_of_lem row end down (end_of_last memory (row * 64) 32).high i.columns (end - i.columns)))

    rows_of : (n : ℕ) → n ≤ 15 → AreOf channel (rows_tape_of channel memory n)
    unfolding rows_tape_of
    rows_of zero h = tt
    rows_of (suc n) h = of_then (rows_tape_of channel memory n) _ (rows_of n (omega arith)) (row_of n (omega arith))

    show_of_lem : (held : ℕ) → AreOf channel (cue_of (show memory channel held))
    unfolding loading_of
    show_of_lem held =
        of_then (loading_of memory channel) _
        (of_then (bytes_of channel rcl_item ++ bytes_of channel enm_item) _
        (of_then (bytes_of channel rcl_item) _ (control_of_lem 0x14 0x20 0 (omega arith) (omega arith)) (control_of_lem 0x14 0x2e 0 (omega arith) (omega arith))) (rows_of 15 (omega arith)))
        (of_then (nulls_of held) _ (nulls_of_lem held) (control_of_lem 0x14 0x2f 0 (omega arith) (omega arith)))

-- What they do to a desk that has the other channel selected.

-- a desk that hears another channel than its own, with these captions; it expects no pair that begins as EOC and EDM of its own
record Aside (own channel : ℕ) (c : Captions) (d : Desk) : Type 0 where
  follows : Follows own c d
  stream : d.state.stream ≡ channel
  free : d.state.first ≡ 0x14 + (own - 1) * 8 → d.state.second ≡ 0

-- the bytes s, played on d, leave its channel selected and its captions as they were, whatever is played behind them: the same is displayed behind each of their pairs
pub record Passed (own : ℕ) (c : Captions) (d : Desk) (s : List ℕ) : Type 0 where
  pub to : Desk
  pub follows : Follows own c to
  pub free : to.state.first ≡ 0x14 + (own - 1) * 8 → to.state.second ≡ 0
  pub films : (l : List ℕ) → film_of d (s ++ l) ≡ replicate (pairs_of s) (displayed_of c.cells) ++ film_of to l

module _ (own channel : ℕ) (ol : 1 ≤ own) (ou : own ≤ 2) (cl : 1 ≤ channel) (cu : channel ≤ 2) (other : own ≡ channel → ⊥) (c : Captions) where
  abbrev Off : Desk → Type 0
  Off = Aside own channel c

  abbrev Kept : Desk → Type 0
  Kept = Follows own c

  clear_off : (d : Desk) → Off d → Off (cleared_of d)
  unfolding cleared_of
  clear_off d h = record { follows = record { selected = h.follows.selected; captions = h.follows.captions }; stream = h.stream; free = λ e. refl }

  -- the gate is shut
  type_off : (d : Desk) (code : ℕ) → Off d → Off (type_of d code)
  unfolding type_of
  type_off d code h =
      let s = h.follows.selected in
      let t = h.stream in
      rw (ne_eqb d.state.stream d.state.selected (λ e. other (sym s ∙ sym e ∙ t))) h

  text_off : (d : Desk) (y : ℕ) → Off d → Off (as_text_of d y)
  unfolding as_text_of
  text_off d y h = pick_cases Off (is_good y) (λ t. pick_cases Off (ltb (low_seven y) 0x20) (λ u. h) (λ u. type_off d (low_seven y) h)) (λ t. type_off d 0x7f h)

  -- a control pair of the other channel turns the stream to it, and does not act
  control_off : (d : Desk) (a b : ℕ) → channel_of a ≡ channel → Kept d → Off (control_of d a b)
  unfolding control_of
  control_off d a b e h =
      let s = h.selected in
      rw (ne_eqb (channel_of a) d.state.selected (λ f. other (sym s ∙ sym f ∙ e)))
      (record {
        follows = record { selected = s; captions = h.captions };
        stream = e;
        free = λ f. absurd (other (sym (channel_of_own own 0x14 ol ou (omega arith) (omega arith)) ∙ ap channel_of (sym f) ∙ e));
      })

  pair_off : (d : Desk) (x y : ℕ) → IsOf channel x → Off d → Off (pair_of d x y)
  unfolding pair_of rule_one_of rule_two_of rule_three_of rule_four_of
  pair_off d x y of h =
      let a = low_seven x in
      let e = clear_off d h in
      let f = cleared_of d in
      pick_cases Off (is_good x)
      (λ t. pick_cases Off (ltb a 0x10) (λ u. text_off f y e)
      (λ u. pick_cases Off (ltb a 0x20)
      (λ v. pick_cases Off (is_passed_over d.state a y) (λ w. e)
      (λ w. pick_cases Off (is_unassigned (code_of a (low_seven y))) (λ z. e)
      (λ z. control_off f a (low_seven y) (of (ltb-false a 0x10 u) (ltb-true a 0x20 v)) e.follows)))
      (λ v. text_off (type_of f a) y (type_off f a e))))
      (λ t. pick_cases Off (is_damaged_repeat d.state y) (λ u. e) (λ u. text_off (type_of f 0x7f) y (type_off f 0x7f e)))

  count_off : (d : Desk) → Off d → Off (counted d)
  count_off d h = record { follows = record { selected = h.follows.selected; captions = h.follows.captions }; stream = h.stream; free = h.free }

  take_off : (d : Desk) (x y : ℕ) → IsOf channel x → Off d → Off (taken_of d x y)
  unfolding taken_of
  take_off d x y of h = count_off (pair_of d x y) (pair_off d x y of h)

  shown : (d : Desk) → Kept d → displayed_of d.cells ≡ displayed_of c.cells
  shown d h = ap (λ (x : Captions). displayed_of x.cells) h.captions

  -- one pair after the other
  pass : (s : List ℕ) → AreOf channel s → (d : Desk) → Off d → Passed own c d s
  pass [] of d h = record { to = d; follows = h.follows; free = h.free; films = λ l. refl }
  pass (x ∷ []) of d h = absurd of
  pass (x ∷ y ∷ more) of d h =
      let one = take_off d x y of.0 h in
      let rest = pass more of.1 (taken_of d x y) one in
      record { to = rest.to; follows = rest.follows; free = rest.free; films = λ l i. shown (taken_of d x y) one.follows i ∷ rest.films l i }

  -- "every control pair twice": behind both the stream is the other channel's, whatever it was and whatever was expected
  module _ (a b : ℕ) (k : Control channel a b) where
    abbrev x : ℕ
    x = sent_of a

    abbrev y : ℕ
    y = sent_of b

    hear_off : (d : Desk) → Kept d → (eqb a d.state.first && eqb b d.state.second) ≡ false → Off (taken_of d (sent_of a) (sent_of b))
    unfolding taken_of cleared_of
    hear_off d h t =
        rw (pair_control channel a b k d, t) (count_off (control_of (cleared_of d) a b) (control_off (cleared_of d) a b k.own (record { selected = h.selected; captions = h.captions })))

    twice_off : (d : Desk) → Kept d → Kept (taken_of d (sent_of a) (sent_of b)) × Off (taken_of (taken_of d (sent_of a) (sent_of b)) (sent_of a) (sent_of b))
    unfolding cleared_of
    twice_off d h = go (eqb a d.state.first && eqb b d.state.second) refl
      where
        go : (t : Bool) → (eqb a d.state.first && eqb b d.state.second) ≡ t
            → Kept (taken_of d (sent_of a) (sent_of b)) × Off (taken_of (taken_of d (sent_of a) (sent_of b)) (sent_of a) (sent_of b))
        go true t =
            let low = k.first_low in
            let none : a ≡ 0 → ⊥ = λ e. omega arith in
            let same : Kept (counted (cleared_of d)) = record { selected = h.selected; captions = h.captions } in
            rw (pass_over channel a b k d t) (same, hear_off (counted (cleared_of d)) same (ap (λ (u : Bool). u && eqb b 0) (ne_eqb a 0 none)))
        go false t =
            let e = hear_off d h t in
            let high = k.first_high in
            (e.follows, take_off (taken_of d x y) x y (λ l u. ap channel_of (low_seven-sent_of a (omega arith)) ∙ k.own) e)

    begin : (rest : List ℕ) → AreOf channel rest → (d : Desk) → Kept d → Passed own c d (sent_of a ∷ sent_of b ∷ sent_of a ∷ sent_of b ∷ rest)
    begin rest of d h =
        let e = taken_of d x y in
        let f = taken_of e x y in
        let both = twice_off d h in
        let on = pass rest of f both.1 in
        record { to = on.to; follows = on.follows; free = on.free; films = λ l i. shown e both.0 i ∷ shown f both.1.follows i ∷ on.films l i }

  -- a screen is shown, on the other channel
  pub other_show_passes : (memory : List ℕ) → are_cells memory ≡ true → is_writable memory ≡ true → (held : ℕ) (d : Desk) → Follows own c d → Passed own c d (cue_of (show memory channel held))
  unfolding loading_of bytes_of
  other_show_passes memory valid writable held d h =
      let k = tuned channel 0x14 0x20 cl cu (omega arith) (omega arith) (omega arith) (omega arith) (ap is_unassigned code_rcl) in
      begin (0x14 + (channel - 1) * 8) 0x20 k.control _ (show_of_lem channel cl cu memory valid writable held).1.1 d h

  -- what stands is cleared, on the other channel
  pub other_clear_passes : (d : Desk) → Follows own c d → Passed own c d (cue_of (clear channel))
  unfolding bytes_of
  other_clear_passes d h =
      let k = tuned channel 0x14 0x2c cl cu (omega arith) (omega arith) (omega arith) (omega arith) (ap is_unassigned code_edm) in
      begin (0x14 + (channel - 1) * 8) 0x2c k.control [] tt d h

-- no viewer of the other channel sees anything of a tape, whatever the desk's state
pub other_passes : (own channel : ℕ) → 1 ≤ own → own ≤ 2 → 1 ≤ channel → channel ≤ 2 → (own ≡ channel → ⊥) → (memory : List ℕ) → are_cells memory ≡ true → is_writable memory ≡ true
    → (d : Desk) → d.state.selected ≡ own → film_of d (tape_of memory channel) ≡ replicate (pairs_of (tape_of memory channel)) (displayed_of d.cells)
unfolding tape_of
other_passes own channel ol ou cl cu other memory valid writable d s =
    let p = other_show_passes own channel ol ou cl cu other (captions_of d) memory valid writable 0 d (record { selected = s; captions = refl }) in
    ap (film_of d) (sym (append-nil (tape_of memory channel))) ∙ p.films [] ∙ append-nil (replicate (pairs_of (tape_of memory channel)) (displayed_of d.cells))
