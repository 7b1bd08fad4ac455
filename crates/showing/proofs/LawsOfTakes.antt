-- Calls that are not refused lead the record where the pairs lead the desk. Assumes nothing.
use mathlib.Core.Path.{◌≡◌, refl, ap, sym, subst, ◌∙◌}
use mathlib.Core.Bool.{true}
use mathlib.Core.List.{List, [], ◌∷◌}
use Prim.Native.Nat.{ℕ, ◌+◌, ◌*◌, ◌%◌, ◌<◌, ◌≤◌}
use native.Mathlib.Omega.{arith}
use lib.Dec.{eqb}
use lib.ListN.{length}
use Rattle.facts.specs.Over.{over}
use Rattle.facts.proofs.Choice.{pick_cases}
use Rattle.facts.proofs.Over.{length-over}
use Rattle.wire.specs.Reel.{pairs_of}
use Rattle.state.specs.State.{Desk}
use Rattle.decode.specs.Step.{taken_of}
use Rattle.decode.specs.Play.{displayed_of, play_of, film_of}
use Rattle.decode.proofs.Laws.{taken_of_acts, taken_of_sound}
use Rattle.record.specs.Layout.{read_of, record_of}
use Rattle.record.proofs.Laws.{read_of_record_of, length-record_of}
use Rattle.valid.specs.Valid.{is_valid}
use Rattle.valid.proofs.Laws.{is_valid_sound, is_valid-record_of, is_valid-length}
use Rattle.standing.specs.Acts.{pair, entry_of}
use Rattle.standing.specs.Calls.{Buffers, three, gives, Outcome, done, is_sized, is_fit, keep_of}
use Rattle.standing.proofs.Ways.{give_done}
use Rattle.replay.specs.Captions.{count_of, caption_decoder}
use Rattle.desk.specs.Looks.{view_of}
use Rattle.showing.specs.Takes.{took_of, takes_of, answers_of, views_of, done_from}

-- buffers of their lengths, and a valid record: no call is refused with 1 or 6
pub record Fit (w : Buffers) : Type 0 where
  pub sized : is_fit caption_decoder w ≡ true
  pub valid : is_valid w.desk ≡ true

-- the view of a valid record is what its desk displays
pub view_of_displayed : (bs : List ℕ) → is_valid bs ≡ true → view_of bs ≡ displayed_of (read_of bs).cells
unfolding view_of displayed_of
view_of_displayed bs valid = rw valid

-- a slot kept or not, the tray has its length
length_keep_of : (t : List ℕ) (n : ℕ) (r : List ℕ) → length (keep_of caption_decoder t n r) ≡ length t
unfolding keep_of
length_keep_of t n r = pick_cases (λ (l : List ℕ). length l ≡ length t) (eqb (n % 1000) 0) (λ u. length-over t _ r) (λ u. refl)

-- One pair, with an act left before 16,000.

pub record Took (w : Buffers) (x y : ℕ) : Type 0 where
  pub given : (took_of w x y).given ≡ gives 0 (count_of (read_of w.desk) + 1)
  pub reads : read_of (took_of w x y).left.desk ≡ taken_of (read_of w.desk) x y
  pub fit : Fit (took_of w x y).left

pub takes_one : (w : Buffers) (x y : ℕ) → Fit w → count_of (read_of w.desk) < 16000 → Took w x y
takes_one w x y h room =
    let d = read_of w.desk in
    let e = taken_of d x y in
    let log = entry_of (pair x y) in
    let acted = done (count_of e) (three (record_of e) (over w.log (count_of d * 3) log) (keep_of caption_decoder w.tray (count_of e) (record_of e))) in
    let same : acted ≡ took_of w x y = give_done caption_decoder w h.sized h.valid (count_of d) refl (pair x y) refl room refl refl refl refl in
    let sound = taken_of_sound d x y (is_valid_sound w.desk h.valid) room in
    let size = length-record_of e sound.captions.cells.size ∙ sym (is_valid-length w.desk h.valid) in
    let fits : Fit acted.left = record {
      sized = (λ i. is_sized caption_decoder (size i) (length-over w.log (count_of d * 3) log i) (length_keep_of w.tray (count_of e) (record_of e) i)) ∙ h.sized;
      valid = is_valid-record_of e sound;
    } in
    record {
      given = ap (λ (o : Outcome). o.given) (sym same) ∙ ap (gives 0) (taken_of_acts d x y);
      reads = ap (λ (o : Outcome). read_of o.left.desk) (sym same) ∙ read_of_record_of e;
      fit = subst (λ (o : Outcome). Fit o.left) same fits;
    }

-- All of them.

pub record Went (w : Buffers) (s : List ℕ) : Type 0 where
  pub answers : answers_of w s ≡ done_from (count_of (read_of w.desk)) (pairs_of s)
  pub views : views_of w s ≡ film_of (read_of w.desk) s
  pub reads : read_of (takes_of w s).desk ≡ play_of (read_of w.desk) s
  pub fit : Fit (takes_of w s)

pub takes_all : (s : List ℕ) (w : Buffers) → Fit w → count_of (read_of w.desk) + pairs_of s ≤ 16000 → Went w s
takes_all [] w h room = record { answers = refl; views = refl; reads = refl; fit = h }
takes_all (x ∷ []) w h room = record { answers = refl; views = refl; reads = refl; fit = h }
takes_all (x ∷ y ∷ more) w h room =
    let d = read_of w.desk in
    let one = takes_one w x y h (omega arith) in
    let to = (took_of w x y).left in
    let n = ap count_of one.reads ∙ taken_of_acts d x y in
    let all = takes_all more to one.fit (omega arith) in
    let seen = view_of_displayed to.desk one.fit.valid ∙ ap (λ (e : Desk). displayed_of e.cells) one.reads in
    record {
      answers = λ i. one.given i ∷ (all.answers ∙ ap (λ (k : ℕ). done_from k (pairs_of more)) n) i;
      views = λ i. seen i ∷ (all.views ∙ ap (λ (e : Desk). film_of e more) one.reads) i;
      reads = all.reads ∙ ap (λ (e : Desk). play_of e more) one.reads;
      fit = all.fit;
    }
