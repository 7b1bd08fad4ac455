-- The packed number can be taken apart: number and value are had back from the result of every exported call, and neither is larger than is said here. Assumes nothing.
use mathlib.Core.Path.{◌≡◌, refl, ap, sym, subst, ◌∙◌}
use mathlib.Core.List.{List}
use Prim.Native.Nat.{ℕ, ◌<◌, ◌≤◌}
use native.Mathlib.Omega.{arith}
use Rattle.wire.specs.Line.{line_at}
use Rattle.wire.specs.Written.{write_line_of}
use Rattle.standing.specs.Acts.{pair, select}
use Rattle.standing.specs.Calls.{three, Given, gives, Outcome, open_of, take_of, select_of, back_of}
use Rattle.replay.specs.Captions.{caption_decoder}
use Rattle.desk.specs.Looks.{row_of}
use Rattle.tape.specs.Tape.{longest}
use Rattle.writer.specs.Write.{write_tape_of}
use Rattle.loikrasun.specs.Packed.{packed_of, number_in, value_in, given_line, given_view, Ended, ended, ended_of, Filled, filled, written_of, viewed_of}
use Rattle.loikrasun.proofs.Laws.{result_viewed_of}
use Rattle.loikrasun.proofs.LawsOfValues.{Within, open_of_within, give_of_within, back_of_within, row_of_within, given_view_within, write_line_of_within, line_at_within, write_tape_of_within}

pub number_in_packed_of : (g : Given) → g.value < 65536 → number_in (packed_of g) ≡ g.number
unfolding packed_of
number_in_packed_of g h = omega arith

pub value_in-packed_of : (g : Given) → g.value < 65536 → value_in (packed_of g) ≡ g.value
unfolding packed_of
value_in-packed_of g h = omega arith

-- a result that holds what was given: one of the paper's numbers up to `last`, and a value up to `most`
pub record Apart (last most result : ℕ) (g : Given) : Type 0 where
  pub number : number_in result ≡ g.number
  pub value : value_in result ≡ g.value
  pub number_most : number_in result ≤ last
  pub value_most : value_in result ≤ most

module _ (last most : ℕ) (fits : most < 65536) (r : ℕ) where
  apart : {g : Given} → Within last most g → r ≡ packed_of g → Apart last most r g
  apart {g} h e =
      let number = ap number_in e ∙ number_in_packed_of g (omega (arith, h.value)) in
      let value = ap value_in e ∙ value_in-packed_of g (omega (arith, h.value)) in
      record {
        number = number;
        value = value;
        number_most = subst (λ (n : ℕ). n ≤ last) (sym number) h.number;
        value_most = subst (λ (n : ℕ). n ≤ most) (sym value) h.value;
      }

  ended_apart : (o : Outcome) {d l t : List ℕ} → Within last most o.given → ended r d l t ≡ ended_of o → Apart last most r o.given
  ended_apart o h e = apart h (ap (λ (x : Ended). x.result) e)

  filled_apart : {f : Filled} {g : Given} {out : List ℕ} → Within last most g → filled r out ≡ f → f.result ≡ packed_of g → Apart last most r g
  filled_apart h e p = apart h (ap (λ (x : Filled). x.result) e ∙ p)

-- the calls that are lent desk, log and tray: the act count, at most 16,000
module _ (r : ℕ) (d l t : List ℕ) {d₁ l₁ t₁ : List ℕ} where
  pub open_apart : ended r d₁ l₁ t₁ ≡ ended_of (open_of caption_decoder d l t) → Apart 6 0 r (open_of caption_decoder d l t).given
  open_apart = ended_apart 6 0 (omega arith) r (open_of caption_decoder d l t) (open_of_within (three d l t))

  pub take_apart : (first second : ℕ) → ended r d₁ l₁ t₁ ≡ ended_of (take_of caption_decoder d l t first second)
      → Apart 6 16000 r (take_of caption_decoder d l t first second).given
  take_apart first second = ended_apart 6 16000 (omega arith) r (take_of caption_decoder d l t first second) (give_of_within (three d l t) (pair first second))

  pub select_apart : (channel : ℕ) → ended r d₁ l₁ t₁ ≡ ended_of (select_of caption_decoder d l t channel)
      → Apart 6 16000 r (select_of caption_decoder d l t channel).given
  select_apart channel = ended_apart 6 16000 (omega arith) r (select_of caption_decoder d l t channel) (give_of_within (three d l t) (select channel))

  pub back_apart : (k : ℕ) → ended r d₁ l₁ t₁ ≡ ended_of (back_of caption_decoder d l t k) → Apart 6 16000 r (back_of caption_decoder d l t k).given
  back_apart k = ended_apart 6 16000 (omega arith) r (back_of caption_decoder d l t k) (back_of_within (three d l t) k)

-- the other calls: a row's filled cells, at most 32; nothing beside the number; a pair of two bytes; the bytes of a tape
module _ (r : ℕ) where
  pub row_apart : (d : List ℕ) (row : ℕ) → r ≡ packed_of (row_of d row) → Apart 6 32 r (row_of d row)
  row_apart d row = apart 6 32 (omega arith) r (row_of_within d row)

  pub view_apart : (d out : List ℕ) {out₁ : List ℕ} → filled r out₁ ≡ viewed_of d out → Apart 6 0 r (given_view d out)
  view_apart d out e = filled_apart 6 0 (omega arith) r (given_view_within d out) e (result_viewed_of d out)

  pub line_write_apart : (out : List ℕ) (first second : ℕ) {out₁ : List ℕ} → filled r out₁ ≡ written_of (write_line_of out first second)
      → Apart 6 0 r (gives (write_line_of out first second).number (write_line_of out first second).value)
  line_write_apart out first second e = filled_apart 6 0 (omega arith) r (write_line_of_within out first second) e refl

  pub line_read_apart : (reel : List ℕ) → r ≡ packed_of (given_line (line_at reel 0)) → Apart 6 65535 r (given_line (line_at reel 0))
  line_read_apart reel = apart 6 65535 (omega arith) r (line_at_within reel 0)

  pub tape_apart : (memory : List ℕ) (channel : ℕ) (out : List ℕ) {out₁ : List ℕ} → filled r out₁ ≡ written_of (write_tape_of memory channel out)
      → Apart 7 longest r (gives (write_tape_of memory channel out).number (write_tape_of memory channel out).value)
  tape_apart memory channel out e = filled_apart 7 longest (omega arith) r (write_tape_of_within memory channel out) e refl
