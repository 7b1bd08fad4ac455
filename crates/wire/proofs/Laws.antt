-- The laws about bytes and frame lines that callers cite: bounds, what stands at a place of a reel, both round trips, no second answer. Assumes nothing.
use mathlib.Core.Path.{◌≡◌, refl, ap, sym, ◌∙◌}
use mathlib.Core.Bool.{Bool, true, false}
use mathlib.Core.List.{List, [], ◌∷◌}
use Prim.Native.Nat.{ℕ, ◌+◌, ◌-◌, ◌*◌, ◌/◌, ◌%◌, ◌<◌, ◌≤◌}
use native.Mathlib.Nat.{div-add-mod'}
use native.Mathlib.Omega.{arith}
use lib.Dec.{leb, lit<}
use lib.ListN.{length, get_or, take, drop, length-take, length-drop}
use borrow.Author.Tests.{le-leb, lt-leb, lt-ltb, ne_eqb}
use Rattle.std.specs.Prelude.{Result, Ok, Err}
use Rattle.std.specs.Array.{IsFirstChunk}
use Rattle.std.proofs.lemmas.List.{take_all}
use Rattle.facts.specs.Choice.{pick}
use Rattle.facts.specs.Over.{part}
use Rattle.facts.proofs.Choice.{pick_first, pick_second}
use Rattle.facts.proofs.Every.{agree}
use Rattle.wire.specs.declared.Line.{Line}
use Rattle.wire.specs.declared.Line.TheVariants.{Pair, End, Bad}
use Rattle.wire.specs.declared.WrongLength.{WrongLength}
use Rattle.wire.specs.Byte.{low_seven}
use Rattle.wire.specs.Line.{digits, digit_of, hex_of, is_line, byte_at, judge_of, line_at, line_of}
use Rattle.wire.specs.Numbers.{reading, reading_of, read_line_of, number_of_written, value_of_written}
use Rattle.wire.specs.Written.{Outcome, outcome, write_line_of}
use Rattle.wire.proofs.Lemmas.{get_d_place_of, part_five, list_five, part_inside, line_size, line_digit, line_feed}

pub low_seven_below : (byte : ℕ) → low_seven byte < 128
unfolding low_seven
low_seven_below byte = omega arith

pub length_line_of : (first second : ℕ) → length (line_of first second) ≡ 5
unfolding line_of
length_line_of first second = refl

-- ---- what stands at a place of a reel

pub line_at_end : (reel : List ℕ) (at : ℕ) → length reel ≤ at → line_at reel at ≡ End
unfolding line_at
line_at_end reel at h = simp (le-leb _ _ h)

pub line_at_judge_of : (reel : List ℕ) (at : ℕ) → at < length reel → line_at reel at ≡ judge_of (part reel at 5)
unfolding line_at
line_at_judge_of reel at h = simp (lt-leb _ _ h)

pub line_at_short : (reel : List ℕ) (at : ℕ) → at < length reel → length reel < at + 5 → line_at reel at ≡ Bad
unfolding judge_of
line_at_short reel at h k =
    let e : length (part reel at 5) ≡ 5 → ⊥ = simp (length-take, length-drop) (λ e. omega arith) in
    line_at_judge_of reel at h ∙ simp (ne_eqb _ _ e)

-- the first five bytes from a place on, where there are so many
pub line_at_chunk : (reel line : List ℕ) (at : ℕ) → at < length reel → IsFirstChunk (take (length reel - at) (drop at reel)) line 5
    → line_at reel at ≡ judge_of line
line_at_chunk reel line at h c =
    line_at_judge_of reel at h
    ∙ ap judge_of (sym (c.same ∙ ap (take 5) (take_all (length reel - at) (drop at reel) (simp length-drop (omega arith)))))

pub line_at_five : (reel : List ℕ) (at : ℕ) → at + 5 ≤ length reel
    → line_at reel at ≡ judge_of (get_or reel at 0 ∷ get_or reel (at + 1) 0 ∷ get_or reel (at + 2) 0 ∷ get_or reel (at + 3) 0 ∷ get_or reel (at + 4) 0 ∷ [])
line_at_five reel at h = line_at_judge_of reel at (omega arith) ∙ ap judge_of (part_five reel at h)

-- ---- what is given there

given : (end line : Bool) (first second : ℕ)
    → reading_of (pick end End (pick line (Pair first second) Bad)) ≡ pick end (reading 0 false 0) (pick line (reading 0 true (first * 256 + second)) (reading 5 false 0))
given true line first second = refl
given false true first second = refl
given false false first second = refl

pub reading_of_line_at : (reel : List ℕ) (at : ℕ) → reading_of (line_at reel at) ≡ read_line_of reel at
unfolding line_at judge_of read_line_of
reading_of_line_at reel at = let l = part reel at 5 in given (leb (length reel) at) (is_line l) (byte_at l 0) (byte_at l 2)

-- a line and what is given for it, as the clauses have them
pub read_as : (reel : List ℕ) (at : ℕ) {r : Line} → r ≡ line_at reel at → (r ≡ line_at reel at) × (reading_of r ≡ read_line_of reel at)
read_as reel at e = (e, ap reading_of e ∙ reading_of_line_at reel at)

-- ---- the line of a pair reads as the pair

pub digit_of-hex_of : (value : ℕ) → value < 16 → digit_of (hex_of value) ≡ value
unfolding digit_of hex_of
digit_of-hex_of = agree (λ value. digit_of (hex_of value)) (λ value. value) 16 refl

judge_of_line_of : (first second : ℕ) → first < 256 → second < 256 → judge_of (line_of first second) ≡ Pair first second
unfolding judge_of line_of
judge_of_line_of first second f s =
    let first_high : first / 16 < 16 = omega arith in
    let first_low : first % 16 < 16 = omega arith in
    let second_high : second / 16 < 16 = omega arith in
    let second_low : second % 16 < 16 = omega arith in
    simp (digit_of-hex_of, lt-ltb, div-add-mod')

-- wherever it stands in a reel
pub line_at_part : (reel : List ℕ) (at first second : ℕ) → first < 256 → second < 256
    → part reel at 5 ≡ line_of first second → line_at reel at ≡ Pair first second
line_at_part reel at first second f s e =
    let h = part_inside reel at (ap length e ∙ length_line_of first second) in
    line_at_judge_of reel at (omega arith) ∙ ap judge_of e ∙ judge_of_line_of first second f s

pub line_at_line_of : (first second : ℕ) → first < 256 → second < 256 → line_at (line_of first second) 0 ≡ Pair first second
unfolding line_of
line_at_line_of first second f s = line_at_part (line_of first second) 0 first second f s refl

-- ---- what reads as a pair is the pair's line

pub hex_of-digit_of : (byte : ℕ) → digit_of byte < 16 → hex_of (digit_of byte) ≡ byte
unfolding digit_of hex_of
hex_of-digit_of byte h = get_d_place_of digits byte h

module _ (l : List ℕ) (t : is_line l ≡ true) where
  module _ (k : ℕ) (h : k < 3) where
    abbrev high : digit_of (get_or l k 0) < 16
    high = line_digit l t k (omega arith)

    abbrev low : digit_of (get_or l (k + 1) 0) < 16
    low = line_digit l t (k + 1) (omega arith)

    byte_at_below : byte_at l k < 256
    byte_at_below = omega (arith, high, low)

    high_digit : get_or l k 0 ≡ hex_of (byte_at l k / 16)
    high_digit =
        let e : digit_of (get_or l k 0) ≡ byte_at l k / 16 = omega (arith, high, low) in
        sym (hex_of-digit_of (get_or l k 0) high) ∙ ap hex_of e

    low_digit : get_or l (k + 1) 0 ≡ hex_of (byte_at l k % 16)
    low_digit =
        let e : digit_of (get_or l (k + 1) 0) ≡ byte_at l k % 16 = omega (arith, high, low) in
        sym (hex_of-digit_of (get_or l (k + 1) 0) low) ∙ ap hex_of e

  line_of_byte_at : l ≡ line_of (byte_at l 0) (byte_at l 2)
  unfolding line_of
  line_of_byte_at =
      list_five l (line_size l t)
      ∙ (λ i. high_digit 0 (lit< tt) i ∷ low_digit 0 (lit< tt) i ∷ high_digit 2 (lit< tt) i ∷ low_digit 2 (lit< tt) i ∷ line_feed l t i ∷ [])

-- what is known where a pair is read
pub record PairAt (reel : List ℕ) (at first second : ℕ) : Type 0 where
  pub inside : at + 5 ≤ length reel
  pub bytes : part reel at 5 ≡ line_of first second
  pub first_byte : first < 256
  pub second_byte : second < 256

pub line_of_line_at : (reel : List ℕ) (at : ℕ) {first second : ℕ} → line_at reel at ≡ Pair first second → PairAt reel at first second
unfolding line_at judge_of
line_of_line_at reel at {first} {second} e =
    let l = part reel at 5 in
    let q = pick_second (leb (length reel) at) e (λ f. let z : ◌≡◌ {A = ℕ} 0 1 = cc in omega arith) in
    let t = pick_first (is_line l) q.1 (λ f. let z : ◌≡◌ {A = ℕ} 0 1 = cc in omega arith) in
    let f : byte_at l 0 ≡ first = cc t.1 in
    let s : byte_at l 2 ≡ second = cc t.1 in
    record {
      inside = part_inside reel at (line_size l t.0);
      bytes = line_of_byte_at l t.0 ∙ (λ i. line_of (f i) (s i));
      first_byte = rw f at (byte_at_below l t.0 0 (lit< tt));
      second_byte = rw s at (byte_at_below l t.0 2 (lit< tt));
    }

-- ---- no second answer fits

pub read_line_only : (reel : List ℕ) (at : ℕ) (r q : Line) → r ≡ line_at reel at → q ≡ line_at reel at → r ≡ q
read_line_only reel at r q e f = e ∙ sym f

same_written : (r q : Result Unit WrongLength) → number_of_written r ≡ number_of_written q → r ≡ q
same_written (Ok done) (Ok too) e = refl
same_written (Ok done) (Err refusal) e = absurd (omega arith)
same_written (Err refusal) (Ok done) e = absurd (omega arith)
same_written (Err refusal) (Err too) e = refl

pub write_line_only : (out : List ℕ) (first second : ℕ) (r q : Result Unit WrongLength) (d e : List ℕ)
    → outcome (number_of_written r) (value_of_written r) d ≡ write_line_of out first second
    → outcome (number_of_written q) (value_of_written q) e ≡ write_line_of out first second
    → (r ≡ q) × (d ≡ e)
write_line_only out first second r q d e f g =
    let same : outcome (number_of_written r) (value_of_written r) d ≡ outcome (number_of_written q) (value_of_written q) e = f ∙ sym g in
    (same_written r q (ap (λ (o : Outcome). o.number) same), ap (λ (o : Outcome). o.out) same)
