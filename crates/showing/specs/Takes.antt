-- A desk takes raw bytes by the call take, one pair after the other: what it holds at the end, what each call gives, and what is viewed behind each.
-- Paper 02, request 1: "with acts enough left before 16,000 for all the pairs, shows exactly that memory after them"; Paper 01, "Record, log, tray".
-- Assumes nothing.
use Rattle.std.specs.Prelude.{ℕ, zero, suc, ◌+◌, List, [], ◌∷◌}
use Rattle.standing.specs.Calls.{Buffers, Given, gives, Outcome, take_of}
use Rattle.replay.specs.Captions.{caption_decoder}
use Rattle.desk.specs.Looks.{view_of}

-- one call, lent these three buffers
abbrev pub took_of : Buffers → ℕ → ℕ → Outcome
took_of w x y = take_of caption_decoder w.desk w.log w.tray x y

-- what the buffers hold behind the last call; two raw bytes a pair
abbrev pub takes_of : Buffers → List ℕ → Buffers
takes_of w [] = w
takes_of w (x ∷ []) = w
takes_of w (x ∷ y ∷ more) = takes_of (took_of w x y).left more

-- what each call gives
abbrev pub answers_of : Buffers → List ℕ → List Given
answers_of w [] = []
answers_of w (x ∷ []) = []
answers_of w (x ∷ y ∷ more) = (took_of w x y).given ∷ answers_of (took_of w x y).left more

-- what the call view returns behind each of them
abbrev pub views_of : Buffers → List ℕ → List (List ℕ)
views_of w [] = []
views_of w (x ∷ []) = []
views_of w (x ∷ y ∷ more) = view_of (took_of w x y).left.desk ∷ views_of (took_of w x y).left more

-- 0, "done", with "act count", which goes up by one with each call: so many calls behind `count` acts
abbrev pub done_from : ℕ → ℕ → List Given
done_from count zero = []
done_from count (suc n) = gives 0 (count + 1) ∷ done_from (count + 1) n
