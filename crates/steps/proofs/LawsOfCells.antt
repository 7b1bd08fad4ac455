-- Characters side by side: one more, their place, and what a step of them comes to. Assumes nothing.
use mathlib.Core.Path.{◌≡◌, refl, sym, ap, ◌∙◌}
use mathlib.Core.Bool.{true, false, ◌&&◌}
use mathlib.Core.List.{List, [], ◌∷◌, ◌++◌}
use Prim.Native.Nat.{ℕ, ◌+◌, ◌*◌, ◌<◌, ◌≤◌}
use native.Mathlib.Numerals.{add-one}
use native.Mathlib.Omega.{arith}
use lib.Dec.{leb}
use lib.ListN.{length, get_or, set, drop}
use lib.Seq.{drop-cons, drop-length}
use borrow.Author.Tests.{leb-true, ne_eqb}
use Rattle.std.specs.Prelude.{Ok, Err}
use Rattle.facts.specs.Over.{over}
use Rattle.facts.proofs.Choice.{and_left, and_right}
use Rattle.facts.proofs.Over.{over_two}
use Rattle.tape.specs.Channel.{number_of_channel}
use Rattle.items.proofs.LawsOfLaid.{Rest, rest_start, rest_turn, rest_over}
use Rattle.steps.specs.declared.Hand.{Hand}
use Rattle.steps.specs.declared.Wrong.{Wrong}
use Rattle.steps.specs.declared.Wrong.TheVariants.{WrongLength, NoSuch, TooManyFrames, Invalid, NotWritable, TooEarly, Unshown}
use Rattle.steps.specs.Take.{Take, take, Went, went, cells_of, is_place, row_at, typed_of, wrong_row_of, put_of}
use Rattle.steps.specs.Wrong.{wrong_number_of, wrong_frame_of}
use Rattle.steps.specs.Hand.{hand, take_of, Does}
use Rattle.steps.proofs.LawsOfHand.{does_same, does_stopped}

module _ (screen : List ℕ) (at pen : ℕ) (codes : List ℕ) where
  -- so many are typed, and the others are still to be
  abbrev pub Typed : List ℕ → ℕ → Type 0
  Typed now i = Rest screen at (cells_of pen codes) now (at + i * 2) (cells_of pen (drop i codes))

  pub typed_start : Typed screen 0
  typed_start = let e : at + 0 * 2 ≡ at = omega arith in rw e (rest_start screen at (cells_of pen codes))

  cells_more : (i : ℕ) → i < length codes → cells_of pen (drop i codes) ≡ (get_or codes i 0 ∷ pen ∷ []) ++ cells_of pen (drop (i + 1) codes)
  cells_more i h = ap (cells_of pen) (drop-cons codes i 0 h) ∙ ap (λ (k : ℕ). get_or codes i 0 ∷ pen ∷ cells_of pen (drop k codes)) (sym (add-one i))

  pub typed_more : {now : List ℕ} (i : ℕ) → i < length codes → Typed now i → Typed (set (set now (at + i * 2) (get_or codes i 0)) (at + i * 2 + 1) pen) (i + 1)
  typed_more {now} i h t =
      rest_turn screen at (cells_of pen codes) (get_or codes i 0 ∷ pen ∷ []) (cells_of pen (drop (i + 1) codes)) t (cells_more i h) (omega arith)
      (over_two now (at + i * 2) (get_or codes i 0) pen)

  pub typed_all : {now : List ℕ} {i : ℕ} → i ≡ length codes → Typed now i → now ≡ over screen at (cells_of pen codes)
  typed_all {i = i} e t = rest_over screen at (cells_of pen codes) t (ap (cells_of pen) (ap (λ (k : ℕ). drop k codes) e ∙ drop-length codes))

-- A place, and what a step of characters comes to.

pub record Place (row column count : ℕ) : Type 0 where
  pub top : 1 ≤ row
  pub bottom : row ≤ 15
  pub left : 1 ≤ column
  pub right : column + count ≤ 33

pub place_of : (row column count : ℕ) → is_place row column count ≡ true → Place row column count
place_of row column count e =
    let down = and_left (leb 1 row && leb row 15) _ e in
    let along = and_right (leb 1 row && leb row 15) _ e in
    record {
      top = leb-true 1 row (and_left (leb 1 row) _ down);
      bottom = leb-true row 15 (and_right (leb 1 row) _ down);
      left = leb-true 1 column (and_left (leb 1 column) _ along);
      right = leb-true (column + count) 33 (and_right (leb 1 column) _ along);
    }

module _ (t : Take) (row column pen : ℕ) (codes : List ℕ) where
  put_kept : is_place row column (length codes) ≡ true → wrong_row_of (typed_of t.screen row column pen codes) (row_at row) ≡ 0
      → put_of t row column pen codes ≡ went 0 0 (take t.channel true (typed_of t.screen row column pen codes) t.cues)
  unfolding put_of
  put_kept p e = rw (p, e)

  put_wrong : {wrong : ℕ} → is_place row column (length codes) ≡ true → wrong ≡ wrong_row_of (typed_of t.screen row column pen codes) (row_at row) → (wrong ≡ 0 → ⊥)
      → put_of t row column pen codes ≡ went wrong 0 t
  unfolding put_of
  put_wrong {wrong} p e some = rw (p, ← e, ne_eqb wrong 0 some)

  put_nowhere : is_place row column (length codes) ≡ false → put_of t row column pen codes ≡ went 2 0 t
  unfolding put_of
  put_nowhere p = rw p

-- what is wrong has a number
pub some_number : (wrong : Wrong) → wrong_number_of wrong ≡ 0 → ⊥
some_number WrongLength e = omega arith
some_number NoSuch e = omega arith
some_number TooManyFrames e = omega arith
some_number Invalid e = omega arith
some_number NotWritable e = omega arith
some_number (TooEarly frame) e = omega arith
some_number Unshown e = omega arith

-- The screen is tried on a copy, which comes back where it is kept.

module _ (h : Hand) (screen : List ℕ) (row column pen : ℕ) (codes : List ℕ) where
  puts : Take → Went
  puts t = put_of t row column pen codes

  module _ {typed : List ℕ} (place : is_place row column (length codes) ≡ true) (put : typed ≡ typed_of screen row column pen codes) where
    is_wrong : {wrong : ℕ} → wrong ≡ wrong_row_of typed (row_at row) → wrong ≡ wrong_row_of (typed_of screen row column pen codes) (row_at row)
    is_wrong w = w ∙ ap (λ (d : List ℕ). wrong_row_of d (row_at row)) put

    pub does_put : 0 ≡ wrong_row_of typed (row_at row) → (out : List ℕ) → Does (λ t. put_of t row column pen codes) h screen out (Ok (hand h.channel true h.frames)) typed out
    unfolding puts
    does_put e out =
        does_same puts h screen out refl
        (λ cues n. put_kept (take_of h screen cues) row column pen codes place (sym (is_wrong e)) ∙ (λ i. went 0 0 (take (number_of_channel h.channel) true (sym put i) cues)))

    pub stops_put : {wrong : Wrong} → wrong_number_of wrong ≡ wrong_row_of typed (row_at row) → wrong_frame_of wrong ≡ 0 → (out : List ℕ) → Does (λ t. put_of t row column pen codes) h screen out (Err wrong) screen out
    unfolding puts
    stops_put {wrong} e z out =
        does_stopped puts h screen out
        (λ cues n. put_wrong (take_of h screen cues) row column pen codes place (is_wrong e) (some_number wrong) ∙ (λ i. went (wrong_number_of wrong) (sym z i) (take_of h screen cues)))

  pub stops_place : is_place row column (length codes) ≡ false → (out : List ℕ) → Does (λ t. put_of t row column pen codes) h screen out (Err NoSuch) screen out
  unfolding puts
  stops_place p out = does_stopped puts h screen out (λ cues n. put_nowhere (take_of h screen cues) row column pen codes p)
