-- Each answer of the desk has the paper's number and value, and the tests that come first their refusals.
-- Paper 01, "Numbers given back": rows 0 to 4 and 6, and the orders, which begin with 1 and "6 for the desk".
-- Assumes nothing.
use Rattle.std.specs.Prelude.{ℕ, Bool, List, Result, Ok, Err}
use Rattle.facts.specs.Choice.{pick}
use Rattle.state.specs.declared.State.{State}
use Rattle.record.specs.Layout.{state_of}
use Rattle.valid.specs.Valid.{is_valid}
use Rattle.standing.specs.Calls.{Given, gives}
use Rattle.desk.specs.declared.Refusal.{Refusal}
use Rattle.desk.specs.declared.Refusal.TheVariants.{WrongLength, NoSuch, Full, TooFar, Invalid}

-- 0 "done"; 1 "a lent buffer has a wrong length"; 2 "channel not 1–2, row not 1–15"; 3 "16,000 acts stand already";
-- 4 "back by more than stand"; 6 "desk invalid; in back, start or a needed act invalid"
abbrev pub number_of : Result ℕ Refusal → ℕ
number_of (Ok value) = 0
number_of (Err WrongLength) = 1
number_of (Err NoSuch) = 2
number_of (Err Full) = 3
number_of (Err TooFar) = 4
number_of (Err Invalid) = 6

-- "act count, or what was asked"; else 0
abbrev pub value_of : Result ℕ Refusal → ℕ
value_of (Ok value) = value
value_of (Err refusal) = 0

abbrev pub given : Result ℕ Refusal → Given
given r = gives (number_of r) (value_of r)

-- what comes first in each order: 1 where a length is wrong, then 6 for the desk; else the state that the desk holds
unfoldable pub ready_of : Bool → List ℕ → Result State Refusal
ready_of sized d = pick sized (pick (is_valid d) (Ok (state_of d)) (Err Invalid)) (Err WrongLength)
