-- A frame line in a part of five bytes, which line of raw bytes comes next, and raw bytes that are held. Assumes nothing.
use mathlib.Core.Path.{◌≡◌, refl, sym, ap, ◌∙◌}
use mathlib.Core.List.{List, [], ◌∷◌, ◌++◌, append_assoc}
use Prim.Native.Nat.{ℕ, suc, ◌+◌, ◌-◌, ◌<◌, ◌≤◌}
use native.Mathlib.Omega.{arith}
use lib.ListN.{length, get_or, take, drop, length-append, length-drop}
use lib.Seq.{take_all, take_at, drop_at}
use borrow.Author.Tests.{eq-eqb}
use borrow.Rule.Slice.PartMut.{put_mid}
use Rattle.wire.specs.Line.{line_of}
use Rattle.wire.specs.Written.{Outcome, outcome, write_line_of}
use Rattle.wire.specs.Reel.{Pairs, reel_of_raw}
use Rattle.wire.proofs.LawsOfReel.{reel_of_raw_then}
use Rattle.tape.specs.Programme.{nulls_of}
use Rattle.tape.proofs.LawsOfSizes.{nulls_of_pairs}
use Rattle.items.specs.Laid.{Laid}
use Rattle.items.proofs.LawsOfLaid.{tail_of, laid_then, room_front}
use Rattle.frames.specs.Held.{last_at, held_of}

-- a buffer of five bytes takes a line
pub written_line : (five : List ℕ) (first second : ℕ) {number value : ℕ} {left : List ℕ} → length five ≡ 5 → outcome number value left ≡ write_line_of five first second → left ≡ line_of first second
unfolding write_line_of
written_line five first second e w = ap (λ (o : Outcome). o.out) (rw (eq-eqb (length five) 5 e) at w)

-- the line of the pair that comes next, and the others
pub reel_more : (pair s : List ℕ) → length pair ≡ 2 → reel_of_raw (pair ++ s) ≡ line_of (get_or pair 0 0) (get_or pair 1 0) ++ reel_of_raw s
reel_more [] s h = absurd (omega arith)
reel_more (x ∷ []) s h = absurd (omega arith)
reel_more (x ∷ y ∷ []) s h = refl
reel_more (x ∷ y ∷ z ∷ more) s h = absurd (omega arith)

-- fewer than two bytes are no line
pub reel_end : (s : List ℕ) → length s < 2 → reel_of_raw s ≡ []
reel_end [] h = refl
reel_end (x ∷ []) h = refl
reel_end (x ∷ y ∷ s) h = absurd (omega arith)

-- a frame of nothing, and the others
pub nulls_more : (n i : ℕ) → i < n → reel_of_raw (nulls_of (n - i)) ≡ line_of 0x80 0x80 ++ reel_of_raw (nulls_of (n - (i + 1)))
nulls_more n i h = let e : n - i ≡ suc (n - (i + 1)) = omega arith in ap (λ (k : ℕ). reel_of_raw (nulls_of k)) e

-- Raw bytes that are held, part by part.

pub last_all : (raw : List ℕ) (last : ℕ) → take (length raw - last) (drop last raw) ≡ drop last raw
last_all raw last = take_all (length raw - last) (drop last raw) (simp length-drop (omega arith))

module _ (raw : List ℕ) (held : ℕ) where
  abbrev pub loaded : List ℕ
  loaded = reel_of_raw (take (last_at raw) raw)

  abbrev pub waited : List ℕ
  waited = reel_of_raw (nulls_of held)

  abbrev pub shown : List ℕ
  shown = reel_of_raw (drop (last_at raw) raw)

  held_parts : (loaded ++ waited) ++ shown ≡ held_of raw held
  unfolding held_of
  held_parts = append_assoc loaded waited shown

  module _ (out : List ℕ) (room : length (held_of raw held) ≤ length out) where
    pub held_all : length ((loaded ++ waited) ++ shown) ≤ length out
    held_all = rw held_parts room

    pub held_two : length (loaded ++ waited) ≤ length out
    held_two = room_front out (loaded ++ waited) shown held_all

    pub held_laid : {o left : List ℕ} {n m : ℕ} → Laid out (loaded ++ waited) o n → Laid (tail_of o n) shown left m → Laid out (held_of raw held) (put_mid n (length o - n) o left) (n + m)
    held_laid p q = rw held_parts at (laid_then out (loaded ++ waited) shown held_all p q)

-- Whole pairs that end in two more.
pub held_of_then : (load last : List ℕ) (held : ℕ) → Pairs load → length last ≡ 4 → held_of (load ++ last) held ≡ reel_of_raw (load ++ (nulls_of held ++ last))
unfolding held_of
held_of_then load last held p e =
    let n : length load ≡ last_at (load ++ last) = omega (arith, length-append load last) in
    (λ i. reel_of_raw (take_at load last (last_at (load ++ last)) n i) ++ (reel_of_raw (nulls_of held) ++ reel_of_raw (drop_at load last (last_at (load ++ last)) n i)))
    ∙ ap (λ (l : List ℕ). reel_of_raw load ++ l) (sym (reel_of_raw_then (nulls_of held) last (nulls_of_pairs held)))
    ∙ sym (reel_of_raw_then load (nulls_of held ++ last) p)
