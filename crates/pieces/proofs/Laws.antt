-- The pieces of a register: as many steps as there is room for, one piece after the other, until all is given; joined they are the register. Assumes nothing.
use mathlib.Core.Path.{◌≡◌, refl, ap, sym, subst, ◌∙◌}
use mathlib.Core.Bool.{Bool, true, false}
use mathlib.Core.List.{List, [], ◌++◌, append_assoc}
use Prim.Native.Nat.{ℕ, zero, suc, ◌+◌, ◌-◌, ◌<◌, ◌≤◌}
use native.Mathlib.Omega.{arith}
use lib.Dec.{leb}
use lib.ListN.{length, take, length-append}
use lib.Seq.{length-take-le}
use borrow.Rule.Slice.PartMut.{put_mid}
use borrow.Author.Tests.{leb-true}
use Rattle.facts.specs.Choice.{pick}
use Rattle.facts.specs.Over.{over, part}
use Rattle.facts.proofs.Choice.{pick_cases, and_left, and_right}
use Rattle.facts.proofs.Tail.{over_tail}
use Rattle.facts.proofs.Over.{length-over, over_nil, front_over, over_then}
use Rattle.lines.specs.Line.{Put}
use Rattle.runs.specs.Register.{register_of}
use Rattle.walk.specs.declared.Stage.{Stage}
use Rattle.walk.specs.Stage.{is_live}
use Rattle.walk.specs.Walk.{Place, start_of, room, Fit, steps_of, step_of, step_text_of}
use Rattle.pieces.specs.Pieces.{buffer, is_on, Printed, printed, print_from, piece_of, Handed, handed, next_piece_of, pieces_from, pieces_of, joined}
use Rattle.walk.proofs.Stages.{no_stages}
use Rattle.walk.proofs.Laws.{rest_of, rest_none, rest_start}
use Rattle.walk.proofs.LawsOfSteps.{start_fit, step_rest, step_fit, step_on}

-- where a step more is made, all is not given yet, and there is room for its output
pub is_on_live : (stage : Stage) (n : ℕ) → is_on stage n ≡ true → is_live stage ≡ true
unfolding is_on
is_on_live stage n t = and_right (leb (n + room) buffer) (is_live stage) t

pub is_on-room : (stage : Stage) (n : ℕ) → is_on stage n ≡ true → n + room ≤ buffer
unfolding is_on
is_on-room stage n t = leb-true (n + room) buffer (and_left (leb (n + room) buffer) (is_live stage) t)

-- at the front of the buffer there is room, so that a piece is not empty handed while there is something to give
is_on_front : (stage : Stage) → is_live stage ≡ true → is_on stage 0 ≡ true
unfolding is_on
is_on_front stage h = h

-- Step after step.

pub print_shut : (steps : ℕ) (reel text : List ℕ) (p : Place) → is_on p.walk.stage (length text) ≡ false → print_from steps reel text p ≡ printed text p
unfolding print_from
print_shut zero reel text p e = refl
print_shut (suc steps) reel text p e = ap (λ (t : Bool). pick t (print_from steps reel (text ++ step_text_of p reel) (step_of p reel)) (printed text p)) e

pub print_on : (reel text : List ℕ) (p : Place) → Fit p → is_on p.walk.stage (length text) ≡ true
    → print_from (steps_of p.walk) reel text p ≡ print_from (steps_of (step_of p reel).walk) reel (text ++ step_text_of p reel) (step_of p reel)
unfolding print_from
print_on reel text p f e =
    let more = print_from (steps_of (step_of p reel).walk) reel (text ++ step_text_of p reel) (step_of p reel) in
    ap (λ (k : ℕ). print_from k reel text p) (step_on p reel f (is_on_live p.walk.stage (length text) e)) ∙ ap (λ (t : Bool). pick t more (printed text p)) e

-- What holds behind some steps: nothing is lost, nothing comes twice, what steps ask is kept, and no step is taken back.

record Goes (reel text : List ℕ) (p : Place) (q : Printed) : Type 0 where
  all : q.text ++ rest_of q.place reel ≡ text ++ rest_of p reel
  fit : Fit q.place
  on : steps_of q.place.walk ≤ steps_of p.walk

print_goes : (steps : ℕ) (reel text : List ℕ) (p : Place) → Fit p → Goes reel text p (print_from steps reel text p)
unfolding print_from
print_goes zero reel text p f = record { all = refl; fit = f; on = omega arith }
print_goes (suc steps) reel text p f =
    pick_cases (Goes reel text p) (is_on p.walk.stage (length text))
    (λ t.
    let live = is_on_live p.walk.stage (length text) t in
    let next = step_on p reel f live in
    let g = print_goes steps reel (text ++ step_text_of p reel) (step_of p reel) (step_fit p reel f live) in
    let on = g.on in
    record {
      all = g.all ∙ append_assoc text (step_text_of p reel) (rest_of (step_of p reel) reel) ∙ ap (λ (l : List ℕ). text ++ l) (step_rest p reel f live);
      fit = g.fit;
      on = omega arith;
    })
    (λ t. record { all = refl; fit = f; on = omega arith })

-- The loop of a call: what stands at the front of the buffer is what its steps have printed, and the bytes behind it are as they were.

pub record Going (p₀ : Place) (reel out₀ : List ℕ) (p : Place) (n : ℕ) (out : List ℕ) : Type 0 where
  pub full : length out ≡ buffer
  pub small : n ≤ buffer
  pub fit : Fit p
  pub bytes : out ≡ over out₀ 0 (take n out)
  pub piece : print_from (steps_of p.walk) reel (take n out) p ≡ piece_of p₀ reel

module _ (p : Place) (reel out₀ : List ℕ) where
  pub going_start : length out₀ ≡ buffer → Fit p → Going p reel out₀ p 0 out₀
  unfolding piece_of
  going_start full f = record { full = full; small = omega arith; fit = f; bytes = sym (over_nil out₀ 0); piece = refl }

module _ {p₀ p : Place} (reel : List ℕ) {out₀ out : List ℕ} (n : ℕ) (g : Going p₀ reel out₀ p n out) where
  front : length (take n out) ≡ n
  front =
      let full = g.full in
      let small = g.small in
      length-take-le n out (omega arith)

  at_front : {t : Bool} → is_on p.walk.stage n ≡ t → is_on p.walk.stage (length (take n out)) ≡ t
  at_front e = ap (is_on p.walk.stage) front ∙ e

  pub going_more : is_on p.walk.stage n ≡ true → {q : Place} {left : List ℕ} {m : ℕ} → q ≡ step_of p reel → Put (part out n (buffer - n)) (step_text_of p reel) room left m → Going p₀ reel out₀ q (n + m) (put_mid n (buffer - n) out left)
  going_more t {q} {left} {m} e put =
      let text = step_text_of p reel in
      let enough = is_on-room p.walk.stage n t in
      let small = put.room in
      let full = g.full in
      let tail : buffer - n ≡ length out - n = omega arith in
      let whole : put_mid n (buffer - n) out left ≡ over out n text = rw tail (over_tail out n text (omega arith) (rw tail at put.bytes)) in
      let next = ap (λ (k : ℕ). n + k) put.next in
      let here : take (n + m) (put_mid n (buffer - n) out left) ≡ take n out ++ text = (λ i. take (next i) (whole i)) ∙ front_over out n text (omega arith) in
      record {
        full = ap length whole ∙ length-over out n text ∙ full;
        small = omega arith;
        fit = subst Fit (sym e) (step_fit p reel g.fit (is_on_live p.walk.stage n t));
        bytes = over_then out₀ 0 (take n out) text n (omega (arith, front)) g.bytes whole ∙ ap (over out₀ 0) (sym here);
        piece = (λ i. print_from (steps_of (e i).walk) reel (here i) (e i)) ∙ sym (print_on reel (take n out) p g.fit (at_front t)) ∙ g.piece;
      }

  pub going_less : is_on p.walk.stage n ≡ true → {q : Place} → q ≡ step_of p reel → steps_of q.walk < steps_of p.walk
  going_less t e = omega (arith, step_on p reel g.fit (is_on_live p.walk.stage n t), ap (λ (x : Place). steps_of x.walk) e)

  pub going_end : is_on p.walk.stage n ≡ false → handed p n out ≡ next_piece_of p₀ reel out₀
  unfolding next_piece_of
  going_end t =
      (λ i. handed p (sym front i) (g.bytes i))
      ∙ ap (λ (d : Printed). handed d.place (length d.text) (over out₀ 0 d.text)) (sym (print_shut (steps_of p.walk) reel (take n out) p (at_front t)) ∙ g.piece)

-- One piece: it and what is then to come are what was to come, and it takes the walk on.

module _ (p : Place) (reel : List ℕ) (f : Fit p) where
  goes : Goes reel [] p (piece_of p reel)
  unfolding piece_of
  goes = print_goes (steps_of p.walk) reel [] p f

  pub piece_rest : (piece_of p reel).text ++ rest_of (piece_of p reel).place reel ≡ rest_of p reel
  piece_rest = goes.all

  pub piece_fit : Fit (piece_of p reel).place
  piece_fit = goes.fit

  pub piece_on : is_live p.walk.stage ≡ true → steps_of (piece_of p reel).place.walk < steps_of p.walk
  unfolding piece_of
  piece_on live =
      let next = step_on p reel f live in
      let g = print_goes (steps_of (step_of p reel).walk) reel (step_text_of p reel) (step_of p reel) (step_fit p reel f live) in
      let on = g.on in
      omega (arith, ap (λ (q : Printed). steps_of q.place.walk) (print_on reel [] p f (is_on_front p.walk.stage live)))

-- The same of what a call gives.

module _ (p : Place) (reel out : List ℕ) (f : Fit p) {q : Place} {m : ℕ} {left : List ℕ} (h : handed q m left ≡ next_piece_of p reel out) where
  at : q ≡ (piece_of p reel).place
  unfolding next_piece_of
  at = ap (λ (x : Handed). x.place) h

  size : m ≡ length (piece_of p reel).text
  unfolding next_piece_of
  size = ap (λ (x : Handed). x.n) h

  pub handed_rest : m + length (rest_of q reel) ≡ length (rest_of p reel)
  handed_rest =
      (λ i. size i + length (rest_of (at i) reel))
      ∙ sym (length-append (piece_of p reel).text (rest_of (piece_of p reel).place reel)) ∙ ap length (piece_rest p reel f)

  pub handed_fit : Fit q
  handed_fit = subst Fit (sym at) (piece_fit p reel f)

  pub handed_on : is_live p.walk.stage ≡ true → steps_of q.walk < steps_of p.walk
  handed_on live = omega (arith, piece_on p reel f live, ap (λ (x : Place). steps_of x.walk) at)

-- "the program only reads and prints": the pieces in the order of the calls come to an end, and joined they are the register.

pieces_rest : (calls : ℕ) (reel : List ℕ) (p : Place) → Fit p → steps_of p.walk ≤ calls → joined (pieces_from calls reel p) ≡ rest_of p reel
unfolding pieces_from
pieces_rest zero reel p f h = sym (rest_none p reel (no_stages p.walk.stage (omega arith)))
pieces_rest (suc calls) reel p f h =
    pick_cases (λ (l : List (List ℕ)). joined l ≡ rest_of p reel) (is_live p.walk.stage)
    (λ t.
    let on = piece_on p reel f t in
    ap (λ (l : List ℕ). (piece_of p reel).text ++ l) (pieces_rest calls reel (piece_of p reel).place (piece_fit p reel f) (omega arith)) ∙ piece_rest p reel f)
    (λ t. sym (rest_none p reel t))

pub pieces_register_of : (reel : List ℕ) → joined (pieces_of reel) ≡ register_of reel
unfolding pieces_of
pieces_register_of reel = pieces_rest (steps_of start_of.walk) reel start_of start_fit (omega arith) ∙ rest_start reel

-- No second answer fits.

pub next_piece_only : (p : Place) (reel out : List ℕ) {q r : Place} {n m : ℕ} {left right : List ℕ} → handed q n left ≡ next_piece_of p reel out → handed r m right ≡ next_piece_of p reel out
    → (q ≡ r) × (n ≡ m) × (left ≡ right)
next_piece_only p reel out {q} {r} {n} {m} {left} {right} e f =
    let same : handed q n left ≡ handed r m right = e ∙ sym f in
    (ap (λ (h : Handed). h.place) same, ap (λ (h : Handed). h.n) same, ap (λ (h : Handed). h.out) same)
