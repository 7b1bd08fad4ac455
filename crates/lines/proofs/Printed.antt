-- What is printed of a row starts at its first non-empty cell and ends with its last: the two ends are what their names say.
-- No other numbers are. Assumes nothing.
use mathlib.Core.Path.{◌≡◌, ap, sym, ◌∙◌}
use mathlib.Core.Bool.{◌&&◌}
use mathlib.Core.List.{List}
use Prim.Native.Nat.{ℕ, zero, suc, ◌+◌, ◌-◌, ◌≤◌, ◌<◌}
use native.Mathlib.Omega.{arith}
use lib.Dec.{eqb}
use borrow.Author.Count.{below_more}
use borrow.Author.Tests.{eqb-true, eqb-false, eq-eqb}
use Rattle.std.specs.Prelude.{Option, Some, None, MatchOption}
use Rattle.std.specs.Option.{unwrap_or}
use Rattle.facts.proofs.Choice.{pick_cases, below_cases, and_left, and_right, and_both}
use Rattle.lines.specs.Span.{code_at, lead_more_of, end_more_of, lead_of, end_of}

-- of n cells, those before `lead` are empty, and the one at `lead` is not
pub record First (s : List ℕ) (at n lead : ℕ) : Type 0 where
  pub high : lead ≤ n
  pub empty : (k : ℕ) → k < lead → code_at s at k ≡ 0
  pub filled : lead < n → code_at s at lead ≡ 0 → ⊥

-- of n cells, those from `end` on are empty, and the one before it is not
pub record Last (s : List ℕ) (at n end : ℕ) : Type 0 where
  pub high : end ≤ n
  pub empty : (k : ℕ) → end ≤ k → k < n → code_at s at k ≡ 0
  pub filled : (k : ℕ) → end ≡ k + 1 → code_at s at k ≡ 0 → ⊥

pub lead_of_first : (s : List ℕ) (at n : ℕ) → First s at n (lead_of s at n)
unfolding lead_of lead_more_of
lead_of_first s at zero = record { high = omega arith; empty = λ k h. absurd (omega arith); filled = λ h. absurd (omega arith) }
lead_of_first s at (suc n) =
    let code = code_at s at n in
    let lead = lead_of s at n in
    let ih = lead_of_first s at n in
    let high = ih.high in
    pick_cases (First s at (suc n)) (eqb code 0 && eqb lead n)
    (λ t.
    let here = eqb-true lead n (and_right (eqb code 0) (eqb lead n) t) in
    record {
      high = omega arith;
      empty = below_more (λ k. code_at s at k ≡ 0) n (λ k l. ih.empty k (omega arith)) (eqb-true code 0 (and_left (eqb code 0) (eqb lead n) t));
      filled = λ h. absurd (omega arith);
    })
    (λ t. record {
      high = omega arith;
      empty = ih.empty;
      filled = λ h z. below_cases lead n (λ l. ih.filled l z)
          (λ g.
          let here : lead ≡ n = omega arith in
          let both = and_both (eq-eqb code 0 (ap (code_at s at) (sym here) ∙ z)) (eq-eqb lead n here) in
          let y : ◌≡◌ {A = ℕ} 0 1 = cc in omega arith);
    })

pub end_of_last : (s : List ℕ) (at n : ℕ) → Last s at n (end_of s at n)
unfolding end_of end_more_of
end_of_last s at zero = record { high = omega arith; empty = λ k low h. absurd (omega arith); filled = λ k e. absurd (omega arith) }
end_of_last s at (suc n) =
    let code = code_at s at n in
    let ih = end_of_last s at n in
    let high = ih.high in
    pick_cases (Last s at (suc n)) (eqb code 0)
    (λ t. record {
      high = omega arith;
      empty = λ k low h. below_more (λ j. end_of s at n ≤ j → code_at s at j ≡ 0) n (λ j l low. ih.empty j low l) (λ low. eqb-true code 0 t) k (omega arith) low;
      filled = ih.filled;
    })
    (λ t. record {
      high = omega arith;
      empty = λ k low h. absurd (omega arith);
      filled = λ k e z. let here : n ≡ k = omega arith in eqb-false code 0 t (ap (code_at s at) here ∙ z);
    })

-- No other number is such an end.

pub lead_of_only : (s : List ℕ) (at n lead : ℕ) → First s at n lead → lead ≡ lead_of s at n
lead_of_only s at n lead f =
    let g = lead_of_first s at n in
    let high = f.high in
    let most = g.high in
    let no_less : lead < lead_of s at n → ⊥ = λ l. f.filled (omega arith) (g.empty lead l) in
    let no_more : lead_of s at n < lead → ⊥ = λ l. g.filled (omega arith) (f.empty (lead_of s at n) l) in
    omega arith

pub end_of_only : (s : List ℕ) (at n end : ℕ) → Last s at n end → end ≡ end_of s at n
end_of_only s at n end f =
    let g = end_of_last s at n in
    let high = f.high in
    let most = g.high in
    let no_less : end < end_of s at n → ⊥ = λ l. g.filled (end_of s at n - 1) (omega arith) (f.empty (end_of s at n - 1) (omega arith) (omega arith)) in
    let no_more : end_of s at n < end → ⊥ = λ l. f.filled (end - 1) (omega arith) (g.empty (end - 1) (omega arith) (omega arith)) in
    omega arith

-- the last cell before k is not empty, and those from k on are
pub end_of_here : (s : List ℕ) (at n k : ℕ) → k ≤ n → ((j : ℕ) → k ≤ j → j < n → code_at s at j ≡ 0) → (code_at s at (k - 1) ≡ 0 → ⊥) → k ≡ end_of s at n
end_of_here s at n k high empty filled =
    end_of_only s at n k (record { high = high; empty = empty; filled = λ j e z. let same : j ≡ k - 1 = omega arith in filled (rw (sym same) z) })

-- with no non-empty cell there is nothing before the end
pub end_of_none : (s : List ℕ) (at n : ℕ) → ((k : ℕ) → k < n → code_at s at k ≡ 0) → end_of s at n ≡ 0
end_of_none s at n h = sym (end_of_only s at n 0 (record { high = omega arith; empty = λ k low. h k; filled = λ k e. absurd (omega arith) }))

-- what a search from the front finds, or n where it finds none, is the first end
pub lead_of_found : (s : List ℕ) (at n : ℕ) (r : Option ℕ) → MatchOption r ((k : ℕ) → 0 ≤ k → k < n → code_at s at k ≡ 0)
    (λ i. (0 ≤ i) × (i < n) × (code_at s at i ≡ 0 → ⊥) × ((k : ℕ) → 0 ≤ k → k < i → code_at s at k ≡ 0)) → (unwrap_or r n ≡ lead_of s at n) × (unwrap_or r n ≤ n)
lead_of_found s at n None f = (lead_of_only s at n n (record { high = omega arith; empty = λ k. f k (omega arith); filled = λ h. absurd (omega arith) }), omega arith)
lead_of_found s at n (Some i) f =
    let below = f.1 in
    (lead_of_only s at n i (record { high = omega arith; empty = λ k. f.3 k (omega arith); filled = λ h. f.2 }), omega arith)
