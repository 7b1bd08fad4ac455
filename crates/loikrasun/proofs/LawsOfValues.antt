-- What each call can give at most: a number of the paper's table, and a value that fits beside it in the packed number. Assumes nothing.
use mathlib.Core.Path.{◌≡◌, refl}
use mathlib.Core.Bool.{Bool, true}
use mathlib.Core.List.{List}
use Prim.Native.Nat.{ℕ, zero, suc, ◌+◌, ◌-◌, ◌*◌, ◌<◌, ◌≤◌}
use native.Mathlib.Omega.{arith}
use lib.Dec.{eqb, leb, ltb}
use lib.ListN.{length, get_or, drop}
use borrow.Author.Tests.{ltb-true}
use Rattle.facts.proofs.Choice.{pick_cases}
use Rattle.wire.specs.declared.Line.{Line}
use Rattle.wire.specs.declared.Line.TheVariants.{Pair, End, Bad}
use Rattle.wire.specs.Line.{line_at}
use Rattle.wire.specs.Written as written
use Rattle.wire.specs.Written.{write_line_of}
use Rattle.wire.proofs.Laws.{line_of_line_at}
use Rattle.page.specs.Page.{filled_of, filled_from, count_row_of}
use Rattle.valid.specs.Valid.{is_valid}
use Rattle.valid.proofs.Laws.{is_valid_sound}
use Rattle.standing.specs.Acts.{Act, is_allowed}
use Rattle.standing.specs.Calls.{Buffers, Given, gives, Outcome, need, is_fit, open_of, give_of, acted_of, is_replayable, stepped_of, back_of}
use Rattle.replay.specs.Captions.{count_of, caption_decoder}
use Rattle.replay.proofs.Laws.{step_acts}
use Rattle.desk.specs.Looks.{is_row_number, look_of, row_of, view_number_of}
use Rattle.tape.specs.Writable.{are_cells, is_writable}
use Rattle.tape.specs.Tape.{longest}
use Rattle.tape.proofs.LawsOfSizes.{length-tape_of}
use Rattle.writer.specs.Write.{is_lent, is_channel, write_tape_of}
use Rattle.loikrasun.specs.Packed.{given_line, given_view}

-- a number of the table up to `last`, and a value up to `most`
pub record Within (last most : ℕ) (g : Given) : Type 0 where
  pub number : g.number ≤ last
  pub value : g.value ≤ most

-- 0 beside the number, as for each refusal
gives_within : (last most number : ℕ) → number ≤ last → Within last most (gives number 0)
gives_within last most number h = record { number = h; value = omega arith }

need_within : (most : ℕ) (test : Bool) (number : ℕ) (w : Buffers) (next : Outcome) → number ≤ 6
    → (test ≡ true → Within 6 most next.given) → Within 6 most (need test number w next).given
need_within most test number w next h f = pick_cases (λ (o : Outcome). Within 6 most o.given) test f (λ e. gives_within 6 most number h)

-- the calls that are lent desk, log and tray give the act count

module _ (w : Buffers) where
  pub open_of_within : Within 6 0 (open_of caption_decoder w.desk w.log w.tray).given
  unfolding open_of
  open_of_within = need_within 0 (is_fit caption_decoder w) 1 w _ (omega arith) (λ e. gives_within 6 0 0 (omega arith))

  abbrev count : ℕ
  count = count_of (caption_decoder.read_of w.desk)

  pub give_of_within : (a : Act) → Within 6 16000 (give_of caption_decoder w a).given
  unfolding give_of acted_of
  give_of_within a =
      need_within 16000 (is_fit caption_decoder w) 1 w _ (omega arith) (λ fit.
      need_within 16000 (is_valid w.desk) 6 w _ (omega arith) (λ valid.
      need_within 16000 (is_allowed a) 2 w _ (omega arith) (λ allowed.
      need_within 16000 (ltb count 16000) 3 w _ (omega arith) (λ room.
      record { number = omega arith; value = omega (arith, ltb-true count 16000 room, step_acts (caption_decoder.read_of w.desk) a) }))))

  pub back_of_within : (k : ℕ) → Within 6 16000 (back_of caption_decoder w.desk w.log w.tray k).given
  unfolding back_of stepped_of
  back_of_within k =
      need_within 16000 (is_fit caption_decoder w) 1 w _ (omega arith) (λ fit.
      need_within 16000 (is_valid w.desk) 6 w _ (omega arith) (λ valid.
      need_within 16000 (leb k count) 4 w _ (omega arith) (λ near.
      need_within 16000 (is_replayable caption_decoder w.log w.tray (count - k)) 6 w _ (omega arith) (λ formed.
      record { number = omega arith; value = omega (arith, (is_valid_sound w.desk valid).acts) }))))

-- the calls that only look

look_of_within : (most : ℕ) (d : List ℕ) (next : Given) → Within 6 most next → Within 6 most (look_of d next)
unfolding look_of
look_of_within most d next h =
    pick_cases (Within 6 most) (eqb (length d) 1984) (λ size. pick_cases (Within 6 most) (is_valid d) (λ valid. h) (λ invalid. gives_within 6 most 6 (omega arith)))
    (λ size. gives_within 6 most 1 (omega arith))

filled_from-most : (d : List ℕ) (at n : ℕ) → filled_from d at n ≤ n
filled_from-most d at zero = omega arith
filled_from-most d at (suc n) =
    let one : filled_of (get_or d (at + n * 2) 0) ≤ 1 = pick_cases (λ (f : ℕ). f ≤ 1) (eqb (get_or d (at + n * 2) 0) 0) (λ e. omega arith) (λ e. omega arith) in
    omega (arith, one, filled_from-most d at n)

pub row_of_within : (d : List ℕ) (row : ℕ) → Within 6 32 (row_of d row)
unfolding row_of count_row_of
row_of_within d row =
    look_of_within 32 d _
    (pick_cases (Within 6 32) (is_row_number row) (λ e. record { number = omega arith; value = filled_from-most (drop 64 d) _ 32 }) (λ e. gives_within 6 32 2 (omega arith)))

pub given_view_within : (d out : List ℕ) → Within 6 0 (given_view d out)
unfolding view_number_of
given_view_within d out =
    pick_cases (Within 6 0) (eqb (length out) 960) (λ size. look_of_within 0 d (gives 0 0) (gives_within 6 0 0 (omega arith))) (λ size. gives_within 6 0 1 (omega arith))

-- the calls that write into one buffer

abbrev OutWithin : ℕ → ℕ → written.Outcome → Type 0
OutWithin last most o = Within last most (gives o.number o.value)

pub write_line_of_within : (out : List ℕ) (first second : ℕ) → Within 6 0 (gives (write_line_of out first second).number (write_line_of out first second).value)
unfolding write_line_of
write_line_of_within out first second =
    pick_cases (OutWithin 6 0) (eqb (length out) 5) (λ e. gives_within 6 0 0 (omega arith)) (λ e. gives_within 6 0 1 (omega arith))

pub write_tape_of_within : (memory : List ℕ) (channel : ℕ) (out : List ℕ)
    → Within 7 longest (gives (write_tape_of memory channel out).number (write_tape_of memory channel out).value)
unfolding write_tape_of
write_tape_of_within memory channel out =
    pick_cases (OutWithin 7 longest) (is_lent memory out)
    (λ lent. pick_cases (OutWithin 7 longest) (are_cells memory)
    (λ cells. pick_cases (OutWithin 7 longest) (is_channel channel)
    (λ own.
    pick_cases (OutWithin 7 longest) (is_writable memory) (λ fits. record { number = omega arith; value = length-tape_of channel memory }) (λ e. gives_within 7 longest 7 (omega arith)))
    (λ e. gives_within 7 longest 2 (omega arith)))
    (λ e. gives_within 7 longest 6 (omega arith)))
    (λ e. gives_within 7 longest 1 (omega arith))

-- the call that reads a frame line

line_within : (line : Line) → ((first second : ℕ) → line ≡ Pair first second → (first < 256) × (second < 256)) → Within 6 65535 (given_line line)
line_within (Pair first second) bytes = let b = bytes first second refl in record { number = omega arith; value = omega (arith, b.0, b.1) }
line_within End bytes = gives_within 6 65535 0 (omega arith)
line_within Bad bytes = gives_within 6 65535 5 (omega arith)

pub line_at_within : (reel : List ℕ) (at : ℕ) → Within 6 65535 (given_line (line_at reel at))
line_at_within reel at = line_within (line_at reel at) (λ first second e. let p = line_of_line_at reel at e in (p.first_byte, p.second_byte))
