-- A row's items load the row, and all rows the memory. Assumes nothing.
use mathlib.Core.Path.{◌≡◌, refl, sym, ap, subst, ◌∙◌}
use mathlib.Core.Bool.{true}
use mathlib.Core.List.{List}
use Prim.Native.Nat.{ℕ, zero, suc, ◌+◌, ◌-◌, ◌*◌, ◌/◌, ◌%◌, ◌<◌, ◌≤◌}
use native.Mathlib.Omega.{arith}
use lib.Dec.{eqb, leb, ltb}
use lib.ListN.{get_or}
use borrow.Author.Tests.{lt-ltb, lt-leb, le-leb, eqb-true, eqb-false, leb-true, ltb-true, ltb-false}
use Rattle.facts.specs.Choice.{pick}
use Rattle.facts.proofs.Choice.{pick_cases, below_cases, and_left, and_right}
use Rattle.cell.specs.Place.{row_number, column_number}
use Rattle.codes.specs.Assigned.{is_unassigned}
use Rattle.state.specs.State.{Captions}
use Rattle.typing.specs.Typing.{write_of}
use Rattle.record.specs.Layout.{code_at}
use Rattle.lines.specs.Span.{lead_of, end_of}
use Rattle.lines.proofs.Printed.{Last, lead_of_first, end_of_last}
use Rattle.tape.specs.declared.Item.{Item}
use Rattle.tape.specs.Item.{item, is_plain, gap_of, next_item_of, bytes_of}
use Rattle.tape.specs.Preamble.{firsts, seconds, style_of, indent_of, preamble_item_of}
use Rattle.tape.specs.Writable.{are_cells, row_pen_of, is_writable}
use Rattle.tape.specs.Tape.{code_before, item_at, items_of, rest_of, filled_row_of, row_tape_of, rows_tape_of}
use Rattle.tape.proofs.LawsOfLoading.{Loaded, Stands, skip, put, special, tabs, addresses, special_kept, tab_kept, preamble_kept}
use Rattle.tape.proofs.LawsOfCodes.{code_tab, code_special, addressed}
use Rattle.tape.proofs.LawsOfItems.{Leads, leads_none, leads_then, leads_so, leads_control, leads_one, leads_two}
use Rattle.tape.proofs.LawsOfWritable.{code_kinds, Fine, fine, empty_bytes}

-- what codeBefore says of a cell
module _ (memory : List ℕ) (at end k : ℕ) where
  pub before_here : k < end → code_before memory at end k ≡ code_at memory at k
  unfolding code_before
  before_here h = rw (lt-ltb k end h)

  -- it has this code, which is not that of the end
  before_is : (P : ℕ → Type 0) → P (code_before memory at end k) → (P 0x80 → ⊥) → (k < end) × P (code_at memory at k)
  unfolding code_before
  before_is P p none = pick_cases (λ (x : ℕ). P x → (k < end) × P (code_at memory at k)) (ltb k end) (λ t q. (ltb-true k end t, q)) (λ t q. absurd (none q)) p

module _ (channel : ℕ) (cl : 1 ≤ channel) (cu : channel ≤ 2) (memory : List ℕ) (row pen end : ℕ) (down : row < 15) (f : Fine memory (row * 64) pen) (last : Last memory (row * 64) 32 end) where
  abbrev at : ℕ
  at = row * 64

  abbrev S : ℕ → Captions → Type 0
  S k = Stands memory row k pen

  -- the item at cell k takes the desk on by its columns, and not past the end
  abbrev Goes : ℕ → Item → Type 0
  Goes k i = (k + i.columns ≤ end) × (1 ≤ i.columns) × Leads channel (Stands memory row k pen) (Stands memory row (k + i.columns) pen) (bytes_of channel i)

  opened : (k : ℕ) (c : Captions) → Stands memory row k pen c → (c.mode.style ≡ 2) × (c.mode.text ≡ 0)
  opened k c h = (h.loaded.style, h.loaded.text)

  -- an empty cell is not the last
  more : (k : ℕ) → k < end → code_at memory (row * 64) k ≡ 0 → k + 1 < end
  more k h e = below_cases (k + 1) end (λ l. l) (λ g. let here : end ≡ k + 1 = omega arith in absurd (last.filled k here e))

  tab_goes : (k j : ℕ) → 1 ≤ j → j ≤ 3 → k + j < end → ((i : ℕ) → k ≤ i → i < k + j → code_at memory (row * 64) i ≡ 0) → Goes k (item 0x17 (0x20 + j) j)
  tab_goes k j jl ju h none =
      let wide = last.high in
      let code = code_tab j jl ju in (
        omega arith,
        jl,
        leads_control channel cl cu 0x17 (0x20 + j) j (omega arith) (omega arith) (omega arith) (omega arith) (λ e g. omega arith) (ap is_unassigned code)
            (λ c s. rw code (tabs memory row k pen c down (omega arith) s j (omega arith) (empty_bytes memory (row * 64) pen f k (k + j) (omega arith) none)))
            (λ c s. rw code (tab_kept c s.loaded.style s.loaded.text j)),
      )

  special_goes : (k : ℕ) → k < end → 0x90 ≤ code_at memory (row * 64) k → code_at memory (row * 64) k ≤ 0x9f → Goes k (item 0x11 (code_at memory (row * 64) k - 0x60) 1)
  special_goes k h low high =
      let wide = last.high in
      let code = code_at memory (row * 64) k in
      let says = code_special code low high in
      let some : code ≡ 0 → ⊥ = λ e. omega arith in (
        omega arith,
        omega arith,
        leads_control channel cl cu 0x11 (code - 0x60) 1 (omega arith) (omega arith) (omega arith) (omega arith) (λ e g. omega arith) (ap is_unassigned says)
            (λ c s. rw says (special memory row k pen c down (omega arith) s code refl (f.own k (omega arith) some)))
            (λ c s. rw says (special_kept c s.loaded.style s.loaded.text code)),
      )

  one_goes : (k : ℕ) → k < end → 0x20 ≤ code_at memory (row * 64) k → code_at memory (row * 64) k ≤ 0x7f → Goes k (item (code_at memory (row * 64) k) 0 1)
  one_goes k h low high =
      let wide = last.high in
      let code = code_at memory (row * 64) k in
      let some : code ≡ 0 → ⊥ = λ e. omega arith in
      (omega arith, omega arith, leads_one channel (opened k) code 1 low (omega arith) (λ c s. put memory row k pen c down (omega arith) s code refl (f.own k (omega arith) some)))

  two_goes : (k : ℕ) → k + 1 < end → 0x20 ≤ code_at memory (row * 64) k → code_at memory (row * 64) k ≤ 0x7f → 0x20 ≤ code_at memory (row * 64) (k + 1) → code_at memory (row * 64) (k + 1) ≤ 0x7f
      → Goes k (item (code_at memory (row * 64) k) (code_at memory (row * 64) (k + 1)) 2)
  two_goes k h low high low2 high2 =
      let wide = last.high in
      let code = code_at memory (row * 64) k in
      let next = code_at memory (row * 64) (k + 1) in
      let some : code ≡ 0 → ⊥ = λ e. omega arith in
      let some2 : next ≡ 0 → ⊥ = λ e. omega arith in
      let e : k + 1 + 1 ≡ k + 2 = omega arith in (
        omega arith,
        omega arith,
        leads_two channel (opened k) code 2 low (omega arith) next low2 (omega arith)
            (λ c s. rw e at (put memory row (k + 1) pen (write_of c code) down (omega arith)
            (put memory row k pen c down (omega arith) s code refl (f.own k (omega arith) some)) next refl (f.own (k + 1) (omega arith) some2))),
      )

  -- one empty cell more
  abbrev Gap : ℕ → ℕ → Type 0
  Gap k m = (i : ℕ) → k ≤ i → i < m → code_at memory (row * 64) i ≡ 0

  grow : (k m n : ℕ) → n ≤ m + 1 → code_at memory (row * 64) m ≡ 0 → Gap k m → Gap k n
  grow k m n h e g i l u = below_cases i m (g i l) (λ b. let here : i ≡ m = omega arith in ap (code_at memory (row * 64)) here ∙ e)

  -- a tab over one to three of them
  gap_goes : (k : ℕ) → k < end → code_at memory (row * 64) k ≡ 0
      → Goes k (item 0x17 (0x20 + gap_of (code_before memory (row * 64) end (k + 1)) (code_before memory (row * 64) end (k + 2))) (gap_of (code_before memory (row * 64) end (k + 1)) (code_before memory (row * 64) end (k + 2))))
  gap_goes k h e =
      let next = code_before memory (row * 64) end (k + 1) in
      let after = code_before memory (row * 64) end (k + 2) in
      let first = grow k k (k + 1) (omega arith) e (λ i l u. absurd (omega arith)) in
      pick_cases (λ (j : ℕ). Goes k (item 0x17 (0x20 + j) j)) (eqb next 0)
      (λ t.
      let n = before_is memory (row * 64) end (k + 1) (λ x. x ≡ 0) (eqb-true next 0 t) (λ z. omega arith) in
      let second = grow k (k + 1) (k + 2) (omega arith) n.1 first in
      pick_cases (λ (j : ℕ). Goes k (item 0x17 (0x20 + j) j)) (eqb after 0)
      (λ u.
      let m = before_is memory (row * 64) end (k + 2) (λ x. x ≡ 0) (eqb-true after 0 u) (λ z. omega arith) in
      let far = more (k + 2) m.0 m.1 in
      tab_goes k 3 (omega arith) (omega arith) (omega arith) (grow k (k + 2) (k + 3) (omega arith) m.1 second))
      (λ u. let far = more (k + 1) n.0 n.1 in tab_goes k 2 (omega arith) (omega arith) (omega arith) second))
      (λ t. tab_goes k 1 (omega arith) (omega arith) (more k h e) first)

  -- whatever stands there
  item_goes : (k : ℕ) → k < end → Goes k (item_at memory (row * 64) end k)
  unfolding next_item_of
  item_goes k h =
      let wide = last.high in
      let here = before_here memory (row * 64) end k h in
      let code = code_at memory (row * 64) k in
      let next = code_before memory (row * 64) end (k + 1) in
      let after = code_before memory (row * 64) end (k + 2) in
      subst (λ (x : ℕ). Goes k (next_item_of x next after)) (sym here)
      (pick_cases (Goes k) (eqb code 0) (λ t. gap_goes k h (eqb-true code 0 t))
      (λ t.
      let kinds = code_kinds code {G = Goes k (pick (leb 0x90 code) (item 0x11 (code - 0x60) 1) (pick (is_plain next) (item code next 2) (item code 0 1)))}
      (f.code k (omega arith)) (eqb-false code 0 t) (f.other k (omega arith)) in
      kinds
      (λ low high. rw (lt-leb 0x90 code (omega arith))
      (pick_cases (Goes k) (is_plain next)
      (λ u.
      let n = before_is memory (row * 64) end (k + 1) (λ x. is_plain x ≡ true) u (λ z. let y : ◌≡◌ {A = ℕ} 0 1 = cc in omega arith) in
      let c1 = code_at memory (row * 64) (k + 1) in
      rw (before_here memory (row * 64) end (k + 1) n.0)
      (two_goes k n.0 low high (leb-true 0x20 c1 (and_left (leb 0x20 c1) (leb c1 0x7f) n.1)) (leb-true c1 0x7f (and_right (leb 0x20 c1) (leb c1 0x7f) n.1))))
      (λ u. one_goes k h low high)))
      (λ low high. rw (le-leb 0x90 code low) (special_goes k h low high))))

  -- the items from cell k on
  items_lead : (most k : ℕ) → k ≤ end → end ≤ k + most → Leads channel (Stands memory row k pen) (Stands memory row end pen) (items_of channel memory (row * 64) end k most)
  items_lead zero k low high =
      let here : k ≡ end = omega arith in
      leads_none channel (λ c s. rw here at s)
  items_lead (suc most) k low high =
      let i = item_at memory (row * 64) end k in
      pick_cases (Leads channel (Stands memory row k pen) (Stands memory row end pen)) (ltb k end)
      (λ t.
      let g = item_goes k (ltb-true k end t) in
      leads_then channel (bytes_of channel i) (items_of channel memory (row * 64) end (k + i.columns) most) g.2
      (items_lead most (k + i.columns) g.0 (omega (arith, g.1))))
      (λ t.
      let past = ltb-false k end t in
      let here : k ≡ end = omega arith in
      leads_none channel (λ c s. rw here at s))

  rest_leads : (k : ℕ) → k ≤ end → Leads channel (Stands memory row k pen) (Stands memory row end pen) (rest_of channel memory (row * 64) end k)
  unfolding rest_of
  rest_leads k h = items_lead (end - k) k h (omega arith)

-- the first character of a row is not behind the last
pub lead_before_end : (memory : List ℕ) (at : ℕ) → (end_of memory at 32 ≡ 0 → ⊥) → lead_of memory at 32 < end_of memory at 32
lead_before_end memory at some =
    let end = end_of memory at 32 in
    let lead = lead_of memory at 32 in
    let e : end ≡ end - 1 + 1 = omega arith in
    below_cases lead end (λ l. l) (λ g. absurd ((end_of_last memory at 32).filled (end - 1) e ((lead_of_first memory at 32).empty (end - 1) (omega arith))))

-- A row loads its 64 bytes, and all rows the memory.

module _ (channel : ℕ) (cl : 1 ≤ channel) (cu : channel ≤ 2) (memory : List ℕ) (valid : are_cells memory ≡ true) (writable : is_writable memory ≡ true) where
  module _ (row : ℕ) (down : row < 15) where
    abbrev start : ℕ
    start = row * 64

    abbrev end_here : ℕ
    end_here = end_of memory (row * 64) 32

    abbrev lead_here : ℕ
    lead_here = lead_of memory (row * 64) 32

    abbrev pen : ℕ
    pen = row_pen_of memory (row * 64)

    abbrev f : Fine memory (row * 64) (row_pen_of memory (row * 64))
    f = fine memory row down valid writable

    abbrev last : Last memory (row * 64) 32 (end_of memory (row * 64) 32)
    last = end_of_last memory (row * 64) 32

    -- the rest of the row is empty
    tail : (k : ℕ) → end_of memory (row * 64) 32 ≤ k → k ≤ 32 → (c : Captions) → Loaded memory (row * 64 + k * 2) c → Loaded memory ((row + 1) * 64) c
    tail k low high c l =
        skip memory (row * 64 + k * 2) ((row + 1) * 64) c (omega arith) (omega arith)
        (λ i g u. empty_bytes memory (row * 64) pen f k 32 (omega arith) (λ j a b. last.empty j (omega arith) b) i g (omega arith)) l

    filled_leads : (end_of memory (row * 64) 32 ≡ 0 → ⊥) → Leads channel (Loaded memory (row * 64)) (Loaded memory ((row + 1) * 64)) (filled_row_of channel memory row)
    unfolding filled_row_of preamble_item_of indent_of
    filled_leads some =
        let high = last.high in
        let early = lead_before_end memory (row * 64) some in
        let first = lead_of_first memory (row * 64) 32 in
        let k = indent_of pen lead_here in
        let near : k ≤ lead_here = pick_cases (λ (x : ℕ). x ≤ lead_here) (eqb (pen % 16) 0) (λ t. omega arith) (λ t. omega arith) in
        let a = addressed row pen lead_here down (omega arith) f.ink f.steady in
        let low = a.second_low in
        leads_then channel _ (rest_of channel memory (row * 64) end_here k)
        (leads_control channel cl cu (get_or firsts row 0) (get_or seconds row 0 + (style_of pen lead_here + pen / 16)) k a.first_low a.first_high (omega arith) a.second_high (λ e g. omega arith) (ap is_unassigned a.says)
        (λ c l. rw a.says (addresses memory row k pen c down (omega arith)
        (λ i g u. empty_bytes memory (row * 64) pen f 0 k (omega arith) (λ j b h. first.empty j (omega arith)) i (omega arith) u) l))
        (λ c l. rw a.says (preamble_kept c l.style l.text (row_number (row + 1)) (column_number (k + 1)) pen)))
        (leads_so channel (rest_of channel memory (row * 64) end_here k) (λ c s. tail end_here (omega arith) high c s.loaded) (rest_leads channel cl cu memory row pen end_here down f last k (omega arith)))

    row_leads : Leads channel (Loaded memory (row * 64)) (Loaded memory ((row + 1) * 64)) (row_tape_of channel memory row)
    unfolding row_tape_of
    row_leads =
        pick_cases (Leads channel (Loaded memory (row * 64)) (Loaded memory ((row + 1) * 64))) (eqb end_here 0)
        (λ t.
        let none = eqb-true end_here 0 t in
        let e : row * 64 ≡ row * 64 + 0 * 2 = omega arith in
        leads_none channel (λ c l. tail 0 (omega arith) (omega arith) c (rw e at l)))
        (λ t. filled_leads (eqb-false end_here 0 t))

  pub rows_lead : (n : ℕ) → n ≤ 15 → Leads channel (Loaded memory 0) (Loaded memory (n * 64)) (rows_tape_of channel memory n)
  unfolding rows_tape_of
  rows_lead zero h = leads_none channel (λ c l. l)
  rows_lead (suc n) h =
      let e : (n + 1) * 64 ≡ suc n * 64 = omega arith in
      leads_then channel (rows_tape_of channel memory n) (row_tape_of channel memory n) (rows_lead n (omega arith)) (rw e at (row_leads n (omega arith)))
