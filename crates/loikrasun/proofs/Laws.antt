-- An answer packed beside what its call left is the call's own outcome packed; a view never hands back more than 960 bytes, and what it gives is packed. Assumes nothing.
use mathlib.Core.Path.{◌≡◌, refl, ap, ◌∙◌}
use mathlib.Core.Bool.{Bool, true, false}
use mathlib.Core.List.{List}
use Prim.Native.Nat.{ℕ, ◌≤◌}
use native.Mathlib.Omega.{arith}
use lib.Dec.{eqb}
use lib.ListN.{length, length-take}
use Rattle.facts.specs.Choice.{pick}
use Rattle.facts.proofs.Choice.{pick_cases}
use Rattle.wire.specs.Written as written
use Rattle.valid.specs.Valid.{is_valid}
use Rattle.standing.specs.Calls.{Given, gives, Outcome, outcome}
use Rattle.std.specs.Prelude.{Result, Ok, Err, MatchResult}
use Rattle.desk.specs.declared.Refusal as desk
use Rattle.desk.specs.Numbers.{number_of, given}
use Rattle.writer.specs.declared.Refusal as writer
use Rattle.writer.specs.Write.{number_of_refusal, number_of_tape, value_of_tape}
use Rattle.desk.specs.Looks.{view_of, view_number_of}
use Rattle.loikrasun.specs.Packed.{packed_of, given_view, ended, ended_of, filled, written_of, viewed_of}

-- a packed answer of the desk holds what was given for it, and so does that for a frame line written and for a tape
pub desk_packed : (r : Result ℕ desk.Refusal) {p : ℕ} → MatchResult r (λ value. p ≡ packed_of (gives 0 value))
    (λ refusal. (number : ℕ) × (number ≡ number_of (Err refusal)) × (p ≡ packed_of (gives number 0))) → p ≡ packed_of (given r)
desk_packed (Ok value) h = h
desk_packed (Err refusal) h = h.2 ∙ ap (λ (n : ℕ). packed_of (gives n 0)) h.1

pub tape_packed : (r : Result ℕ writer.Refusal) {p : ℕ} → MatchResult r (λ value. p ≡ packed_of (gives 0 value))
    (λ refusal. (number : ℕ) × (number ≡ number_of_refusal refusal) × (p ≡ packed_of (gives number 0))) → p ≡ packed_of (gives (number_of_tape r) (value_of_tape r))
tape_packed (Ok value) h = h
tape_packed (Err refusal) h = h.2 ∙ ap (λ (n : ℕ). packed_of (gives n 0)) h.1

pub ended_packed : {g : Given} {d l t : List ℕ} {r : ℕ} {o : Outcome} → r ≡ packed_of g → outcome g d l t ≡ o → ended r d l t ≡ ended_of o
ended_packed e f = cc

-- the same of a call that writes into one lent buffer
pub written_packed : {n v r : ℕ} {out : List ℕ} {o : written.Outcome} → r ≡ packed_of (gives n v) → written.outcome n v out ≡ o → filled r out ≡ written_of o
written_packed e f = cc

pub length_view_of : (d : List ℕ) → length (view_of d) ≤ 960
unfolding view_of
length_view_of d = pick_cases (λ (l : List ℕ). length l ≤ 960) (is_valid d) (λ t. simp length-take (omega arith)) (λ t. omega arith)

pick_result : (test : Bool) (a b : Given) (o p : List ℕ) → (pick test (filled (packed_of a) o) (filled (packed_of b) p)).result ≡ packed_of (pick test a b)
pick_result true a b o p = refl
pick_result false a b o p = refl

pub result_viewed_of : (d out : List ℕ) → (viewed_of d out).result ≡ packed_of (given_view d out)
unfolding viewed_of
result_viewed_of d out = pick_result (eqb (length out) 960) (view_number_of d) (gives 1 0) _ _
