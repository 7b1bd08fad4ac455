-- No second answer fits: for each exported call, two results that both meet its clause are one number, and so is every byte they leave. Assumes nothing.
use mathlib.Core.Path.{◌≡◌, ap, sym, ◌∙◌}
use mathlib.Core.List.{List}
use Prim.Native.Nat.{ℕ}
use Rattle.wire.specs.Line.{line_at}
use Rattle.wire.specs.Written.{write_line_of}
use Rattle.standing.specs.Calls.{open_of, take_of, select_of, back_of}
use Rattle.replay.specs.Captions.{caption_decoder}
use Rattle.desk.specs.Looks.{row_of}
use Rattle.writer.specs.Write.{write_tape_of}
use Rattle.loikrasun.specs.Packed.{packed_of, given_line, Ended, ended, ended_of, Filled, filled, written_of, viewed_of}

-- two ends of a call that is lent desk, log and tray
pub record Same (r q : ℕ) (d l t d₁ l₁ t₁ : List ℕ) : Type 0 where
  pub result : r ≡ q
  pub desk : d ≡ d₁
  pub log : l ≡ l₁
  pub tray : t ≡ t₁

-- whatever meets the clause of such a call is the same, and so of a call that fills one buffer and of one that only looks
abbrev pub OneEnd : Ended → Type 0
OneEnd e = (r q : ℕ) (d l t d₁ l₁ t₁ : List ℕ) → ended r d l t ≡ e → ended q d₁ l₁ t₁ ≡ e → Same r q d l t d₁ l₁ t₁

abbrev pub OneFilled : Filled → Type 0
OneFilled e = (r q : ℕ) (o o₁ : List ℕ) → filled r o ≡ e → filled q o₁ ≡ e → (r ≡ q) × (o ≡ o₁)

abbrev pub OneResult : ℕ → Type 0
OneResult n = (r q : ℕ) → r ≡ n → q ≡ n → r ≡ q

ended_only : (e : Ended) → OneEnd e
ended_only e r q d l t d₁ l₁ t₁ f g =
    let same : ended r d l t ≡ ended q d₁ l₁ t₁ = f ∙ sym g in
    record {
      result = ap (λ (x : Ended). x.result) same;
      desk = ap (λ (x : Ended). x.left.desk) same;
      log = ap (λ (x : Ended). x.left.log) same;
      tray = ap (λ (x : Ended). x.left.tray) same;
    }

filled_only : (e : Filled) → OneFilled e
filled_only e r q o o₁ f g =
    let same : filled r o ≡ filled q o₁ = f ∙ sym g in
    (ap (λ (x : Filled). x.result) same, ap (λ (x : Filled). x.out) same)

result_only : (n : ℕ) → OneResult n
result_only n r q f g = f ∙ sym g

-- the calls that are lent desk, log and tray
module _ (d l t : List ℕ) where
  pub open_only : OneEnd (ended_of (open_of caption_decoder d l t))
  open_only = ended_only (ended_of (open_of caption_decoder d l t))

  pub take_only : (first second : ℕ) → OneEnd (ended_of (take_of caption_decoder d l t first second))
  take_only first second = ended_only (ended_of (take_of caption_decoder d l t first second))

  pub select_only : (channel : ℕ) → OneEnd (ended_of (select_of caption_decoder d l t channel))
  select_only channel = ended_only (ended_of (select_of caption_decoder d l t channel))

  pub back_only : (k : ℕ) → OneEnd (ended_of (back_of caption_decoder d l t k))
  back_only k = ended_only (ended_of (back_of caption_decoder d l t k))

-- the calls that fill one lent buffer
pub view_only : (d out : List ℕ) → OneFilled (viewed_of d out)
view_only d out = filled_only (viewed_of d out)

pub line_write_only : (out : List ℕ) (first second : ℕ) → OneFilled (written_of (write_line_of out first second))
line_write_only out first second = filled_only (written_of (write_line_of out first second))

pub tape_only : (memory : List ℕ) (channel : ℕ) (out : List ℕ) → OneFilled (written_of (write_tape_of memory channel out))
tape_only memory channel out = filled_only (written_of (write_tape_of memory channel out))

-- the calls that only look
pub row_only : (d : List ℕ) (row : ℕ) → OneResult (packed_of (row_of d row))
row_only d row = result_only (packed_of (row_of d row))

pub line_read_only : (reel : List ℕ) → OneResult (packed_of (given_line (line_at reel 0)))
line_read_only reel = result_only (packed_of (given_line (line_at reel 0)))
