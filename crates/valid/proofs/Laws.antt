-- The laws of valid records: their size and round trip, and that they are the records of sound desks. Assumes nothing.
use mathlib.Core.Path.{◌≡◌, ap, sym, subst, ◌∙◌}
use mathlib.Core.Bool.{true, false, false≢true}
use mathlib.Core.List.{List}
use Prim.Native.Nat.{ℕ, ◌+◌, ◌-◌, ◌*◌, ◌<◌, ◌≤◌}
use native.Mathlib.Omega.{arith}
use lib.ListN.{length, get_or, drop, length-drop}
use lib.Seq.{get_or-drop}
use borrow.Author.Tests.{leb-true}
use Rattle.facts.specs.Every.{blank_of}
use Rattle.facts.proofs.Choice.{same_test}
use Rattle.cell.specs.declared.Row.{Row}
use Rattle.cell.specs.Place.{row_at}
use Rattle.page.specs.Page.{displayed, filled_from, count_row_of}
use Rattle.page.specs.Cells.{Each}
use Rattle.page.proofs.LawsOfCounts.{filled_from-drop}
use Rattle.window.specs.Cells.{Kept}
use Rattle.state.specs.State.{Desk, Fits}
use Rattle.decode.specs.Sound.{SoundDesk}
use Rattle.record.specs.Layout.{state_of, record_of, read_of, are_counted, Counted, count_at, code_at, pen_at}
use Rattle.record.proofs.Laws.{length-record_of, read_of_record_of, record_of-counted, are_counted-record_of, zeros_record_of}
use Rattle.record.proofs.LawsOfCounts.{are_counted_at}
use Rattle.valid.specs.Valid.{is_valid}
use Rattle.valid.proofs.LawsOfRanges.{within_low, within_high}
use Rattle.valid.proofs.Clauses.{Clauses, is_valid_clauses, clauses_is_valid, is_valid_state_clause, is_valid_state_ranged, is_valid_state_fits, is_valid_state_of, windowed_facts, windowed_of}

pub is_valid-length : (bs : List ℕ) → is_valid bs ≡ true → length bs ≡ 1984
is_valid-length bs e = (is_valid_clauses bs e).size

-- writing what was read from a valid record gives its bytes back
pub record_of_read_of : (bs : List ℕ) → is_valid bs ≡ true → get_or bs 0 0 < 256 → record_of (read_of bs) ≡ bs
record_of_read_of bs e small =
    let c = is_valid_clauses bs e in
    record_of-counted bs c.size c.counts c.zeros small

-- the cells of a record are those of the desk that is read from it
code_is : (bs : List ℕ) (k : ℕ) → get_or (drop 64 bs) (k * 2) 0 ≡ code_at bs 64 k
code_is bs k = get_or-drop 64 bs (k * 2) 0

pen_is : (bs : List ℕ) (k : ℕ) → get_or (drop 64 bs) (k * 2 + 1) 0 ≡ pen_at bs 64 k
pen_is bs k =
    let f : 64 + (k * 2 + 1) ≡ 64 + k * 2 + 1 = omega arith in
    get_or-drop 64 bs (k * 2 + 1) 0 ∙ ap (λ (n : ℕ). get_or bs n 0) f

cells_kept : (bs : List ℕ) → Clauses bs → Each (Kept (state_of bs).mode.mark (state_of bs).mode.roll.row (state_of bs).mode.depth) (drop 64 bs)
cells_kept bs c =
    let m = (state_of bs).mode in
    let high = (is_valid_state_ranged (state_of bs) c.state).roll.place.row_high in
    record {
      size = length-drop 64 bs ∙ ap (λ (n : ℕ). n - 64) c.size;
      at = λ k h. rw (code_is bs k, pen_is bs k) (record {
        allowed = c.cells k h;
        above = λ set l. (windowed_facts m.roll.row m.depth k (code_at bs 64 k) (c.window set k (omega arith))).0 l;
        below = λ set l u. (windowed_facts m.roll.row m.depth k (code_at bs 64 k) (c.window set k u)).1 l;
      });
    }

pub is_valid_sound : (bs : List ℕ) → is_valid bs ≡ true → SoundDesk (read_of bs)
is_valid_sound bs e =
    let c = is_valid_clauses bs e in
    let s = state_of bs in
    let part = is_valid_state_clause s c.state in
    record {
      acts = leb-true s.acts 16000 (part 0);
      selected_low = within_low 1 2 s.selected (part 1);
      selected_high = within_high 1 2 s.selected (part 1);
      stream = leb-true s.stream 2 (part 2);
      expected = part 10;
      captions = record { ranged = is_valid_state_ranged s c.state; fits = is_valid_state_fits s c.state; cells = cells_kept bs c };
    }

-- and back
is_valid_of : (bs : List ℕ) → length bs ≡ 1984 → are_counted bs ≡ true → blank_of bs 49 15 ≡ true → SoundDesk (read_of bs) → is_valid bs ≡ true
is_valid_of bs size counts zeros h =
    let s = state_of bs in
    let m = s.mode in
    let kept : (k : ℕ) → k < 960 → Kept (state_of bs).mode.mark (state_of bs).mode.roll.row (state_of bs).mode.depth k (code_at bs 64 k) (pen_at bs 64 k) =
    λ k l. rw (code_is bs k, pen_is bs k) at (h.captions.cells.at k l) in
    clauses_is_valid bs (record {
      size = size;
      state = is_valid_state_of (read_of bs) h;
      counts = counts;
      zeros = zeros;
      cells = λ k l. (kept k l).allowed;
      window = λ set k l. windowed_of m.roll.row m.depth k (code_at bs 64 k) ((kept k (omega arith)).above set) (λ t. (kept k (omega arith)).below set t l);
    })

pub is_valid-record_of : (d : Desk) → SoundDesk d → is_valid (record_of d) ≡ true
is_valid-record_of d h =
    is_valid_of (record_of d) (length-record_of d h.captions.cells.size) (are_counted-record_of d) (zeros_record_of d) (subst SoundDesk (sym (read_of_record_of d)) h)

-- Request 2: the counts of a valid record are right, one wrong count makes it invalid, and the byte of a displayed row is how many of its cells are filled.

pub is_valid-counted : (bs : List ℕ) → is_valid bs ≡ true → are_counted bs ≡ true
is_valid-counted bs e = (is_valid_clauses bs e).counts

pub miscounted_is_valid : (bs : List ℕ) (k : ℕ) → k < 30 → (Counted bs k → ⊥) → is_valid bs ≡ false
miscounted_is_valid bs k h wrong =
    same_test (is_valid bs) false
    (λ e. absurd (wrong (are_counted_at bs (is_valid-length bs e) (is_valid-counted bs e) k h))) (λ e. absurd (false≢true e))

pub is_valid_fits : (bs : List ℕ) → is_valid bs ≡ true → Fits (state_of bs).mode
is_valid_fits bs e = is_valid_state_fits (state_of bs) (is_valid_clauses bs e).state

pub misfit_is_valid : (bs : List ℕ) → (Fits (state_of bs).mode → ⊥) → is_valid bs ≡ false
misfit_is_valid bs wrong = same_test (is_valid bs) false (λ e. absurd (wrong (is_valid_fits bs e))) (λ e. absurd (false≢true e))

pub is_valid_count : (bs : List ℕ) (row : Row) → is_valid bs ≡ true → 1 ≤ row.0 → row.0 ≤ 15 → count_at bs row ≡ count_row_of (drop 64 bs) displayed row
unfolding count_row_of
is_valid_count bs row e low high =
    let k = row.0 - 1 in
    let byte : 18 + row.0 ≡ 19 + k = omega arith in
    let place : k * 64 ≡ row_at displayed row = omega arith in
    ap (λ (n : ℕ). get_or bs n 0) byte ∙ are_counted_at bs (is_valid-length bs e) (is_valid-counted bs e) k (omega arith)
    ∙ sym (filled_from-drop bs 64 (k * 64) 32) ∙ ap (λ (at : ℕ). filled_from (drop 64 bs) at 32) place
