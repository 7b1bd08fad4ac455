-- What a cue does to a desk on channel 1, pair by pair: it turns to another screen with its last two, or passes and leaves what is displayed. Assumes nothing.
use mathlib.Core.Path.{◌≡◌, refl, sym, ap}
use mathlib.Core.List.{List, [], ◌∷◌, ◌++◌}
use Prim.Native.Nat.{ℕ, zero, suc, ◌+◌, ◌-◌, ◌*◌, ◌≤◌}
use native.Mathlib.Omega.{arith}
use lib.ListN.{length, length-replicate, replicate}
use Rattle.facts.proofs.Over.{length-over, take-over_front}
use Rattle.wire.specs.Byte.{is_good, low_seven}
use Rattle.codes.specs.declared.Code.TheVariants.{Edm}
use Rattle.codes.specs.Assigned.{is_unassigned}
use Rattle.page.specs.Page.{empty_all_of}
use Rattle.state.specs.State.{Captions, Desk}
use Rattle.styles.specs.Styles.{edm_of}
use Rattle.acts.specs.Act.{act_of}
use Rattle.decode.specs.Pair.{captions_of, cleared_of, as_text_of, rule_two_of, pair_of}
use Rattle.decode.specs.Step.{counted, taken_of, fresh_desk}
use Rattle.decode.specs.Play.{displayed_of, film_of}
use Rattle.runs.specs.Runs.{empty_screen}
use Rattle.tape.specs.Item.{eoc_item, bytes_of}
use Rattle.tape.specs.Tape.{loading_of}
use Rattle.tape.specs.Programme.{nulls_of, show, clear, cue_of, Showable}
use Rattle.tape.proofs.LawsOfPairs.{Follows}
use Rattle.tape.proofs.LawsOfCodes.{code_edm}
use Rattle.tape.proofs.LawsOfItems.{Under, Leads, leads_none, leads_then}
use Rattle.tape.proofs.LawsOfTape.{Turned, led_turned, turned_control, loads, eoc_turns}
use Rattle.tape.proofs.LawsOfOther.{Passed}

-- a desk on channel 1 that displays `screen`, and expects no pair that begins as EOC and EDM do
pub record Shows (screen : List ℕ) (d : Desk) : Type 0 where
  pub selected : d.state.selected ≡ 1
  pub free : d.state.first ≡ 0x14 → d.state.second ≡ 0
  pub shown : displayed_of d.cells ≡ screen
  pub wide : 1920 ≤ length d.cells

pub fresh_shows : Shows empty_screen fresh_desk
unfolding fresh_desk displayed_of
fresh_shows = record { selected = refl; free = λ e. refl; shown = refl; wide = omega (arith, length-replicate {A = ℕ} 1920 0) }

-- A null pair clears what is expected, and does nothing else.

null_pair : (d : Desk) → taken_of d 0x80 0x80 ≡ counted (cleared_of d)
unfolding taken_of pair_of rule_two_of as_text_of is_good low_seven
null_pair d = refl

pub nulls_pass : (own n : ℕ) (c : Captions) (d : Desk) → Follows own c d → (d.state.first ≡ 0x14 + (own - 1) * 8 → d.state.second ≡ 0) → Passed own c d (nulls_of n)
unfolding cleared_of
nulls_pass own zero c d h free = record { to = d; follows = h; free = free; films = λ l. refl }
nulls_pass own (suc n) c d h free =
    let e = taken_of d 0x80 0x80 in
    let same : Follows own c (taken_of d 0x80 0x80) = rw (null_pair d) (record { selected = h.selected; captions = h.captions }) in
    let rest = nulls_pass own n c e same (rw (null_pair d) (λ f. refl)) in
    record { to = rest.to; follows = rest.follows; free = rest.free; films = λ l i. displayed_of (same.captions i).cells ∷ rest.films l i }

nulls_lead : (channel n : ℕ) {P : Captions → Type 0} → Leads channel P P (nulls_of n)
unfolding cleared_of
nulls_lead channel zero = leads_none channel (λ c p. p)
nulls_lead channel (suc n) {P} = leads_then channel (0x80 ∷ 0x80 ∷ []) (nulls_of n) one (nulls_lead channel n)
  where
    one : Leads channel P P (0x80 ∷ 0x80 ∷ [])
    one d u =
        let to = taken_of d 0x80 0x80 in
        let kept : displayed_of (taken_of d 0x80 0x80).cells ≡ displayed_of d.cells = rw (null_pair d) in
        let under : Under channel P (taken_of d 0x80 0x80) = rw (null_pair d) (record { selected = u.selected; stream = u.stream; free = λ e g. absurd (omega arith); holds = u.holds }) in
        record { to = to; plays = λ l. refl; under = under; count = 1; size = refl; kept = kept; films = λ l i. kept i ∷ film_of to l }

-- A screen is loaded, held and shown.

pub show_turns : (memory : List ℕ) (held : ℕ) → Showable memory → (screen : List ℕ) (d : Desk) → Shows screen d → Turned 1 memory d (cue_of (show memory 1 held))
show_turns memory held f screen d h =
    let low : 1 ≤ 1 = omega arith in
    let high : 1 ≤ 2 = omega arith in
    let a = loads 1 low high memory f.whole f.valid f.writable d h.selected h.wide in
    let b = nulls_lead 1 held a.to a.under in
    led_turned 1 low high (loading_of memory 1) (nulls_of held ++ bytes_of 1 eoc_item) a
    (led_turned 1 low high (nulls_of held) (bytes_of 1 eoc_item) b (eoc_turns 1 low high memory f.whole f.valid f.writable b.to b.under))

-- The display is cleared.

edm_clears : (c : Captions) → 1920 ≤ length c.cells → (displayed_of (act_of c Edm).cells ≡ empty_screen) × (1920 ≤ length (act_of c Edm).cells)
unfolding act_of edm_of empty_all_of displayed_of
edm_clears c h =
    let n = length-over c.cells 0 (replicate 960 0) in
    (take-over_front c.cells (replicate 960 0) 960 (length-replicate {A = ℕ} 960 0) (omega arith) refl, omega arith)

pub clear_turns : (screen : List ℕ) (d : Desk) → Shows screen d → Turned 1 empty_screen d (cue_of (clear 1))
clear_turns screen d h =
    let clears = edm_clears (captions_of d) h.wide in
    turned_control 1 (omega arith) (omega arith) 0x14 0x2c 0 (omega arith) (omega arith) (omega arith) (omega arith) (ap is_unassigned code_edm) {screen = empty_screen} d h.selected
    (λ e g. let none = h.free (sym e) in omega arith) (rw code_edm clears.0) (rw code_edm clears.1)
