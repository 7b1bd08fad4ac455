-- No second answer fits: for each public call, two answers that both meet its contract are one, and so is every byte they leave. Assumes nothing.
use mathlib.Core.Path.{◌≡◌, ap, sym, ◌∙◌}
use mathlib.Core.List.{List}
use Prim.Native.Nat.{ℕ}
use Rattle.standing.specs.Calls.{Outcome, outcome, open_of, take_of, select_of, back_of}
use Rattle.replay.specs.Captions.{caption_decoder}
use Rattle.std.specs.Prelude.{Result}
use Rattle.desk.specs.declared.Refusal.{Refusal}
use Rattle.desk.specs.Numbers.{given}
use Rattle.desk.specs.Looks.{row_of, view_of, view_number_of}
use Rattle.desk.proofs.Laws.{same_answer}

-- two ends of a call that is lent desk, log and tray
pub record Same (r q : Result ℕ Refusal) (d l t d₁ l₁ t₁ : List ℕ) : Type 0 where
  pub answer : r ≡ q
  pub desk : d ≡ d₁
  pub log : l ≡ l₁
  pub tray : t ≡ t₁

module _ (r q : Result ℕ Refusal) (d l t d₁ l₁ t₁ : List ℕ) where
  only : (o : Outcome) → outcome (given r) d l t ≡ o → outcome (given q) d₁ l₁ t₁ ≡ o → Same r q d l t d₁ l₁ t₁
  only o e f =
      let same : outcome (given r) d l t ≡ outcome (given q) d₁ l₁ t₁ = e ∙ sym f in
      record {
        answer = same_answer r q (ap (λ (x : Outcome). x.given) same);
        desk = ap (λ (x : Outcome). x.left.desk) same;
        log = ap (λ (x : Outcome). x.left.log) same;
        tray = ap (λ (x : Outcome). x.left.tray) same;
      }

  pub open_only : (desk log tray : List ℕ) → outcome (given r) d l t ≡ open_of caption_decoder desk log tray → outcome (given q) d₁ l₁ t₁ ≡ open_of caption_decoder desk log tray
      → Same r q d l t d₁ l₁ t₁
  open_only desk log tray e f = only (open_of caption_decoder desk log tray) e f

  pub take_only : (desk log tray : List ℕ) (x y : ℕ) → outcome (given r) d l t ≡ take_of caption_decoder desk log tray x y
      → outcome (given q) d₁ l₁ t₁ ≡ take_of caption_decoder desk log tray x y → Same r q d l t d₁ l₁ t₁
  take_only desk log tray x y e f = only (take_of caption_decoder desk log tray x y) e f

  pub select_only : (desk log tray : List ℕ) (c : ℕ) → outcome (given r) d l t ≡ select_of caption_decoder desk log tray c
      → outcome (given q) d₁ l₁ t₁ ≡ select_of caption_decoder desk log tray c → Same r q d l t d₁ l₁ t₁
  select_only desk log tray c e f = only (select_of caption_decoder desk log tray c) e f

  pub back_only : (desk log tray : List ℕ) (k : ℕ) → outcome (given r) d l t ≡ back_of caption_decoder desk log tray k
      → outcome (given q) d₁ l₁ t₁ ≡ back_of caption_decoder desk log tray k → Same r q d l t d₁ l₁ t₁
  back_only desk log tray k e f = only (back_of caption_decoder desk log tray k) e f

  -- the calls that only look
  pub row_only : (desk : List ℕ) (row : ℕ) → given r ≡ row_of desk row → given q ≡ row_of desk row → r ≡ q
  row_only desk row e f = same_answer r q (e ∙ sym f)

  pub view_number_only : (desk : List ℕ) → given r ≡ view_number_of desk → given q ≡ view_number_of desk → r ≡ q
  view_number_only desk e f = same_answer r q (e ∙ sym f)

  pub view_only : (desk : List ℕ) → d ≡ view_of desk → d₁ ≡ view_of desk → d ≡ d₁
  view_only desk e f = e ∙ sym f
