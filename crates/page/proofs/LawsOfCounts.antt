-- How many cells of a row are filled: counted byte by byte, none where its bytes are 0, and as many in a list that is read from further on. Assumes nothing.
use mathlib.Core.Path.{◌≡◌, refl, ap, sym, ◌∙◌}
use mathlib.Core.Bool.{Bool, true}
use mathlib.Core.List.{List}
use Prim.Native.Nat.{ℕ, zero, suc, ◌+◌, ◌*◌, ◌/◌, ◌%◌, ◌≤◌}
use native.Mathlib.Nat.{add-zero}
use native.Mathlib.Omega.{arith}
use lib.Dec.{eqb}
use lib.ListN.{get_or, drop}
use lib.Seq.{get_or-drop}
use borrow.Author.Tests.{eq-eqb}
use Rattle.facts.specs.Choice.{pick}
use Rattle.facts.specs.Every.{blank_of}
use Rattle.facts.proofs.Choice.{below_cases}
use Rattle.facts.proofs.Every.{blank_at}
use Rattle.page.specs.Page.{filled_of, filled_from}

pub filled_from-blank : (d : List ℕ) (at n : ℕ) → blank_of d at (n * 2) ≡ true → filled_from d at n ≡ 0
filled_from-blank d at n e = count n (omega arith)
  where
    count : (m : ℕ) → m ≤ n → filled_from d at m ≡ 0
    count zero h = refl
    count (suc m) h = λ i. count m (omega arith) i + filled_of (blank_at d at (n * 2) e (m * 2) (omega arith) i)

pub filled_from-drop : (d : List ℕ) (from at n : ℕ) → filled_from (drop from d) at n ≡ filled_from d (from + at) n
filled_from-drop d from at zero = refl
filled_from-drop d from at (suc n) =
    let f : from + (at + n * 2) ≡ from + at + n * 2 = omega arith in
    λ i. filled_from-drop d from at n i + filled_of ((get_or-drop from d (at + n * 2) 0 ∙ ap (λ (k : ℕ). get_or d k 0) f) i)

-- one turn of a loop over the bytes of a row: byte i is the code of cell i / 2, or a pen
pub filled_from_byte : (d : List ℕ) (at i : ℕ) {sum more : ℕ} → sum ≡ filled_from d at ((i + 1) / 2) → more ≡ pick (eqb (i % 2) 0) (filled_of (get_or d (at + i) 0)) 0
    → sum + more ≡ filled_from d at ((i + 1 + 1) / 2)
filled_from_byte d at i {sum} {more} e f =
    below_cases (i % 2) 1
    (λ t.
    let even : i % 2 ≡ 0 = omega arith in
    let before : (i + 1) / 2 ≡ i / 2 = omega arith in
    let behind : (i + 1 + 1) / 2 ≡ suc (i / 2) = omega arith in
    let place : at + i ≡ at + i / 2 * 2 = omega arith in
    let code = f ∙ ap (λ (t : Bool). pick t (filled_of (get_or d (at + i) 0)) 0) (eq-eqb (i % 2) 0 even) ∙ ap (λ (k : ℕ). filled_of (get_or d k 0)) place in
    (λ j. (e ∙ ap (filled_from d at) before) j + code j) ∙ ap (filled_from d at) (sym behind))
    (λ t.
    let odd : i % 2 ≡ 1 = omega arith in
    let same : (i + 1) / 2 ≡ (i + 1 + 1) / 2 = omega arith in
    let pen = f ∙ ap (λ (k : ℕ). pick (eqb k 0) (filled_of (get_or d (at + i) 0)) 0) odd in
    (λ j. e j + pen j) ∙ add-zero (filled_from d at ((i + 1) / 2)) ∙ ap (filled_from d at) same)
