-- What a register prints of stretches that show nothing, equal screens, and the frames by the line that stands next. Assumes nothing.
use mathlib.Core.Path.{◌≡◌, refl, ap, sym, subst, ◌∙◌}
use mathlib.Core.Bool.{true, false}
use mathlib.Core.List.{List, [], ◌∷◌, ◌++◌}
use Prim.Native.Nat.{ℕ, ◌+◌, ◌*◌, ◌<◌, ◌≤◌}
use native.Mathlib.Omega.{arith}
use lib.Dec.{ltb, eqb}
use lib.ListN.{length, get_or, get_or-replicate}
use borrow.Author.Tests.{lt-ltb, le-ltb, ltb-true, lt-leb, eqb-true, eq-eqb, not-false}
use Rattle.facts.proofs.Choice.{pick_first, pick_cases, and_left, and_right, and_both, same_test}
use Rattle.wire.specs.declared.Line.TheVariants.{Pair, End}
use Rattle.wire.specs.Line.{line_at}
use Rattle.page.specs.Page.{displayed, same_screen_of}
use Rattle.page.proofs.Laws.{is_empty_of_of, same_screen_of_equal, equal_same_screen_of}
use Rattle.lines.specs.Line.{Run, lines_of, refused_of}
use Rattle.lines.proofs.Laws.{lines_of_empty}
use Rattle.runs.specs.Frames.{most, next_of}
use Rattle.runs.specs.Runs.{is_same, is_seen, seen_of, empty_screen}
use Rattle.runs.specs.Register.{text_of, refusal_of}

-- What is printed of stretches that show nothing is nothing.

-- equal in every byte: the test passes exactly where the screens are one
pub is_same_equal : (a b : List ℕ) → is_same a b ≡ true → a ≡ b
is_same_equal [] [] e = refl
is_same_equal [] (y ∷ b) e = cc
is_same_equal (x ∷ a) [] e = cc
is_same_equal (x ∷ a) (y ∷ b) e = λ i. eqb-true x y (and_left (eqb x y) (is_same a b) e) i ∷ is_same_equal a b (and_right (eqb x y) (is_same a b) e) i

is_same_self : (a : List ℕ) → is_same a a ≡ true
is_same_self [] = refl
is_same_self (x ∷ a) = and_both (eq-eqb x x refl) (is_same_self a)

pub equal_is_same : (a b : List ℕ) → a ≡ b → is_same a b ≡ true
equal_is_same a b e = subst (λ (l : List ℕ). is_same a l ≡ true) e (is_same_self a)

-- as the code tests it
pub same_screen_of-is_same : (a b : List ℕ) → length a ≡ 960 → length b ≡ 960 → same_screen_of a b ≡ is_same a b
same_screen_of-is_same a b p q =
    same_test (same_screen_of a b) (is_same a b) (λ t. equal_is_same a b (same_screen_of_equal a b p q t)) (λ t. equal_same_screen_of a b (is_same_equal a b t))

-- a screen that is all empty prints nothing
unseen_lines : (r : Run) → is_seen r.screen ≡ false → lines_of r ≡ []
unseen_lines r e =
    let empty = is_same_equal r.screen empty_screen (not-false (is_same r.screen empty_screen) e) in
    lines_of_empty r (is_empty_of_of r.screen displayed (λ k h. ap (λ (l : List ℕ). get_or l (0 + k) 0) empty ∙ get_or-replicate 960 (0 + k) 0 0 (omega arith)))

pub text_of_seen_of : (rs : List Run) → text_of (seen_of rs) ≡ text_of rs
unfolding text_of
text_of_seen_of [] = refl
text_of_seen_of (r ∷ rs) =
    pick_cases (λ (l : List Run). text_of l ≡ lines_of r ++ text_of rs) (is_seen r.screen) (λ t. ap (λ (l : List ℕ). lines_of r ++ l) (text_of_seen_of rs))
    (λ t. text_of_seen_of rs ∙ ap (λ (l : List ℕ). l ++ text_of rs) (sym (unseen_lines r t)))

-- The frames that are to come, by the line that stands next.

pub next_below : (reel : List ℕ) (frame : ℕ) {first second : ℕ} → next_of reel frame ≡ Pair first second → frame < most
unfolding next_of
next_below reel frame e = ltb-true frame most (pick_first (ltb frame most) e (λ f. let z : ◌≡◌ {A = ℕ} 0 1 = cc in omega arith)).0

-- as the code reads it: the line there, or nothing after 16,000
pub next_of_line : (reel : List ℕ) (frame : ℕ) → frame < most → next_of reel frame ≡ line_at reel (frame * 5)
unfolding next_of
next_of_line reel frame h = simp (lt-ltb frame most h)

pub next_of_full : (reel : List ℕ) (frame : ℕ) → most ≤ frame → next_of reel frame ≡ End
unfolding next_of
next_of_full reel frame h = simp (le-ltb frame most h)

-- "Bytes after 16,000 lines give `refused 16001 3`."
pub refusal_of_full : (size : ℕ) → 80000 < size → refusal_of size 16000 ≡ refused_of 16001 3
unfolding refusal_of
refusal_of_full size h = simp (lt-leb size 80000 h)
