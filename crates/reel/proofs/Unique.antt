-- No second answer fits a call on a reel: two that meet a call's clause are one. Assumes nothing.
use mathlib.Core.Path.{◌≡◌, sym, ◌∙◌}
use mathlib.Core.List.{List}
use Prim.Native.Nat.{ℕ}
use denote.Ref.{Bor}
use Rattle.wire.specs.declared.Line.{Line}
use Rattle.wire.specs.Line.{line_at}
use Rattle.wire.specs.Numbers.{reading_of, read_line_of}
use Rattle.reel.specs.declared.Reader.{Reader}
use Rattle.reel.specs.Walk.{after_of}

pub after_only : (reel : List ℕ) (at : ℕ) {n m : ℕ} → n ≡ after_of reel at → m ≡ after_of reel at → n ≡ m
after_only reel at e f = e ∙ sym f

pub line_only : (reel : List ℕ) (at : ℕ) {l m : Line} → l ≡ line_at reel at → m ≡ line_at reel at → l ≡ m
line_only reel at e f = e ∙ sym f

-- what the clause of `next` says of an answer
abbrev Gives : List ℕ → ℕ → Line → Type 0
Gives reel at l = (l ≡ line_at reel at) × (reading_of l ≡ read_line_of reel at)

pub next_only : (reel : List ℕ) (at : ℕ) {l m : Line} → Gives reel at l → Gives reel at m → l ≡ m
next_only reel at e f = line_only reel at e.0 f.0

-- a reader is its reel and its place
abbrev Stands : Bor (List ℕ) → ℕ → Reader → Type 0
Stands reel at r = (r.reel ≡ reel) × (r.at ≡ at)

stands_only : (reel : Bor (List ℕ)) (at : ℕ) {r q : Reader} → Stands reel at r → Stands reel at q → r ≡ q
stands_only reel at e f = λ i. record { reel = (e.0 ∙ sym f.0) i; at = (e.1 ∙ sym f.1) i }

pub new_only : (reel : Bor (List ℕ)) {r q : Reader} → Stands reel 0 r → Stands reel 0 q → r ≡ q
new_only reel e f = stands_only reel 0 e f

pub moved_only : (p : Reader) {r q : Reader} → Stands p.reel (after_of p.reel.now p.at) r → Stands p.reel (after_of p.reel.now p.at) q → r ≡ q
moved_only p e f = stands_only p.reel (after_of p.reel.now p.at) e f
