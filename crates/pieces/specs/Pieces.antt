-- The register in pieces: what one call puts into a lent buffer, and the pieces of a whole register in the order of the calls.
-- Paper 01, "Reel and register": "the program only reads and prints".
-- Assumes nothing.
use Rattle.std.specs.Prelude.{Bool, ◌&&◌, List, [], ◌∷◌, ◌++◌, ℕ, zero, suc, ◌+◌, leb, length}
use Rattle.facts.specs.Choice.{pick}
use Rattle.facts.specs.Over.{over}
use Rattle.walk.specs.declared.Stage.{Stage}
use Rattle.walk.specs.Stage.{is_live}
use Rattle.walk.specs.Walk.{Place, start_of, room, steps_of, step_of, step_text_of}

-- the bytes of the buffer that a piece is put into
abbrev pub buffer : ℕ
buffer = 65536

-- whether one step more is made behind n bytes: there is room for its output, and all is not given yet
unfoldable pub is_on : Stage → ℕ → Bool
is_on stage n = leb (n + room) buffer && is_live stage

-- what some steps have printed, and where the walk stands then
pub record Printed : Type 0 where
  pub text : List ℕ
  pub place : Place

abbrev pub printed : List ℕ → Place → Printed
printed text p = record { text = text; place = p }

-- step after step behind a text, while there is room; at most so many steps
unfoldable pub print_from : ℕ → List ℕ → List ℕ → Place → Printed
print_from zero reel text p = printed text p
print_from (suc steps) reel text p = pick (is_on p.walk.stage (length text)) (print_from steps reel (text ++ step_text_of p reel) (step_of p reel)) (printed text p)

-- the next piece, with all the steps that are left to make it of
unfoldable pub piece_of : Place → List ℕ → Printed
piece_of p reel = print_from (steps_of p.walk) reel [] p

-- what a call gives and leaves: where the walk stands, how many bytes are the piece, and the buffer
pub record Handed : Type 0 where
  pub place : Place
  pub n : ℕ
  pub out : List ℕ

abbrev pub handed : Place → ℕ → List ℕ → Handed
handed p n out = record { place = p; n = n; out = out }

-- the piece stands at the front of the buffer, and the bytes behind it stay as they were
unfoldable pub next_piece_of : Place → List ℕ → List ℕ → Handed
next_piece_of p reel out = let piece = piece_of p reel in handed piece.place (length piece.text) (over out 0 piece.text)

-- the pieces that calls give one after the other until all is given; at most so many calls
unfoldable pub pieces_from : ℕ → List ℕ → Place → List (List ℕ)
pieces_from zero reel p = []
pieces_from (suc calls) reel p =
    let piece = piece_of p reel in
    pick (is_live p.walk.stage) (piece.text ∷ pieces_from calls reel piece.place) []

unfoldable pub pieces_of : List ℕ → List (List ℕ)
pieces_of reel = pieces_from (steps_of start_of.walk) reel start_of

-- lists joined in order
abbrev pub joined : List (List ℕ) → List ℕ
joined [] = []
joined (l ∷ ls) = l ++ joined ls
