-- The whole tape: RCL and ENM open an empty memory, EOC shows what was loaded. Assumes nothing.
use mathlib.Core.Path.{◌≡◌, refl, sym, ap, ◌∙◌}
use mathlib.Core.Bool.{true, false}
use mathlib.Core.List.{List, [], ◌∷◌, ◌++◌, append-nil, append_assoc}
use Prim.Native.Nat.{ℕ, ◌+◌, ◌-◌, ◌*◌, ◌<◌, ◌≤◌}
use native.Mathlib.Omega.{arith}
use lib.ListN.{length, length-append, take, replicate, length-replicate, get_or-replicate}
use lib.Seq.{ext_get_or, get_or-take, length-take-le}
use borrow.Author.Tests.{lt-ltb}
use Rattle.facts.proofs.Over.{in_over, take-over}
use Rattle.codes.specs.declared.Code.TheVariants.{Rcl, Enm, Eoc}
use Rattle.codes.specs.Codes.{code_of}
use Rattle.codes.specs.Assigned.{is_unassigned}
use Rattle.page.specs.Page.{empty_all_of, exchanged_of}
use Rattle.page.proofs.Laws.{length-empty_all_of, length-exchanged_of, exchanged_of-displayed}
use Rattle.state.specs.State.{Captions, Desk}
use Rattle.styles.specs.Styles.{rcl_of, enm_of, eoc_of}
use Rattle.acts.specs.Act.{act_of}
use Rattle.decode.specs.Pair.{captions_of}
use Rattle.decode.specs.Step.{taken_of}
use Rattle.wire.specs.Byte.{sent_of}
use Rattle.tape.specs.Item.{item, rcl_item, enm_item, eoc_item, bytes_of}
use Rattle.tape.specs.Writable.{are_cells, is_writable}
use Rattle.tape.specs.Tape.{rows_tape_of, loading_of, tape_of}
use Rattle.decode.specs.Play.{play_of, displayed_of, film_of}
use Rattle.wire.specs.Reel.{pairs_of}
use Rattle.tape.proofs.LawsOfPairs.{Follows, twice}
use Rattle.tape.proofs.LawsOfCodes.{tuned, code_rcl, code_enm, code_eoc}
use Rattle.tape.proofs.LawsOfItems.{Under, Led, led_control, leads_control, led_then, replicate_then}
use Rattle.tape.proofs.LawsOfLoading.{Loaded}
use Rattle.tape.proofs.LawsOfRows.{rows_lead}
use Rattle.wire.proofs.LawsOfReel.{pairs_of_half}

-- pop-on with Text off, whatever the memories hold
record Opened (c : Captions) : Type 0 where
  style : c.mode.style ≡ 2
  text : c.mode.text ≡ 0
  size : 1920 ≤ length c.cells

rcl_opens : (c : Captions) → 1920 ≤ length c.cells → Opened (act_of c Rcl)
unfolding act_of rcl_of
rcl_opens c h = record { style = refl; text = refl; size = h }

rcl_kept : (c : Captions) → displayed_of (act_of c Rcl).cells ≡ displayed_of c.cells
unfolding act_of rcl_of
rcl_kept c = refl

enm_loads : (memory : List ℕ) (c : Captions) → Opened c → Loaded memory 0 (act_of c Enm)
unfolding act_of enm_of empty_all_of
enm_loads memory c h =
    let size = h.size in
    record {
      style = h.style;
      text = h.text;
      size = omega (arith, length-empty_all_of c.cells 960);
      front = λ i l. absurd (omega arith);
      rest = λ i g l. in_over c.cells 960 (replicate 960 0) i (omega arith) (omega (arith, length-replicate {A = ℕ} 960 0)) ∙ get_or-replicate 960 i 0 0 l;
    }

enm_kept : (c : Captions) → displayed_of (act_of c Enm).cells ≡ displayed_of c.cells
unfolding act_of enm_of empty_all_of displayed_of
enm_kept c = take-over c.cells 960 (replicate 960 0) 960 (omega arith)

-- the memory stands in the displayed half
eoc_shows : (memory : List ℕ) (c : Captions) → length memory ≡ 960 → Loaded memory 960 c → (displayed_of (act_of c Eoc).cells ≡ memory) × (1920 ≤ length (act_of c Eoc).cells)
unfolding act_of eoc_of displayed_of
eoc_shows memory c whole h =
    let size = h.size in
    let e = exchanged_of c.cells in
    let wide = length-exchanged_of c.cells in
    let n = length-take-le 960 e (omega arith) in (
      ext_get_or 0 (take 960 e) memory (n ∙ sym whole)
          (λ i l. let b : i < 960 = omega arith in get_or-take 960 e i 0 b ∙ exchanged_of-displayed c.cells i size b ∙ h.front i b),
      omega arith,
    )

-- The bytes s, played on d, lead to a desk that displays `screen`, and expects no pair: `count` pairs change nothing, and behind each of the last two it is displayed.
pub record Turned (channel : ℕ) (screen : List ℕ) (d : Desk) (s : List ℕ) : Type 0 where
  pub to : Desk
  pub plays : (l : List ℕ) → play_of d (s ++ l) ≡ play_of to l
  pub count : ℕ
  pub size : length s ≡ (count + 2) * 2
  pub films : (l : List ℕ) → film_of d (s ++ l) ≡ replicate count (displayed_of d.cells) ++ (screen ∷ screen ∷ film_of to l)
  pub selected : to.state.selected ≡ channel
  pub none : to.state.second ≡ 0
  pub shown : displayed_of to.cells ≡ screen
  pub wide : 1920 ≤ length to.cells

module _ (channel : ℕ) (cl : 1 ≤ channel) (cu : channel ≤ 2) where
  -- behind a stretch that changes nothing
  pub led_turned : {Q : Captions → Type 0} {screen : List ℕ} {d : Desk} (s t : List ℕ) (a : Led channel Q d s) → Turned channel screen a.to t → Turned channel screen d (s ++ t)
  led_turned {screen = screen} {d = d} s t a b =
      let m = a.size in
      let n = b.size in
      let z = displayed_of d.cells in
      record {
        to = b.to;
        plays = λ l. ap (play_of d) (append_assoc s t l) ∙ a.plays (t ++ l) ∙ b.plays l;
        count = a.count + b.count;
        size = omega (arith, length-append s t);
        films = λ l.
            let rest = screen ∷ screen ∷ film_of b.to l in
            ap (film_of d) (append_assoc s t l) ∙ a.films (t ++ l)
            ∙ ap (λ (ss : List (List ℕ)). replicate a.count z ++ ss) (b.films l ∙ ap (λ (y : List ℕ). replicate b.count y ++ rest) a.kept)
            ∙ replicate_then a.count b.count z rest;
        selected = b.selected;
        none = b.none;
        shown = b.shown;
        wide = b.wide;
      }

  -- a control item that the desk does not expect acts at once
  pub turned_control : (a b n : ℕ) → 0x10 ≤ a → a ≤ 0x17 → 0x20 ≤ b → b < 128 → is_unassigned (code_of a b) ≡ false → {screen : List ℕ} (d : Desk) → d.state.selected ≡ channel
      → (a + (channel - 1) * 8 ≡ d.state.first → b ≡ d.state.second → ⊥) → displayed_of (act_of (captions_of d) (code_of a b)).cells ≡ screen → 1920 ≤ length (act_of (captions_of d) (code_of a b)).cells
      → Turned channel screen d (bytes_of channel (item a b n))
  unfolding bytes_of
  turned_control a b n al au bl bu t {screen} d s other shows wide =
      let k = tuned channel a b cl cu al au bl bu t in
      let f : Follows channel (captions_of d) d = record { selected = s; captions = refl } in
      let w = twice channel (a + (channel - 1) * 8) b k.control (captions_of d) d f in
      let x = sent_of (a + (channel - 1) * 8) in
      let one = taken_of d x (sent_of b) in
      let to = taken_of one x (sent_of b) in
      let now = w.at_once other in
      let cells : to.cells ≡ (act_of (captions_of d) (code_of a b)).cells = ap (λ (c : Captions). c.cells) w.hears.follows.captions ∙ rw k.same in
      let shown : displayed_of to.cells ≡ screen = ap displayed_of cells ∙ shows in
      let first : displayed_of one.cells ≡ screen = ap displayed_of now.0 ∙ shown in
      rw (lt-ltb a 0x20 (omega arith))
      (record {
        to = to;
        plays = λ l. refl;
        count = 0;
        size = refl;
        films = λ l i. first i ∷ shown i ∷ film_of to l;
        selected = w.hears.follows.selected;
        none = now.1;
        shown = shown;
        wide = rw cells wide;
      })

  module _ (memory : List ℕ) (whole : length memory ≡ 960) (valid : are_cells memory ≡ true) (writable : is_writable memory ≡ true) where
    -- all but EOC
    pub loads : (d : Desk) → d.state.selected ≡ channel → 1920 ≤ length d.cells → Led channel (Loaded memory 960) d (loading_of memory channel)
    unfolding loading_of
    loads d s size =
        let opens = led_control channel cl cu 0x14 0x20 0 (omega arith) (omega arith) (omega arith) (omega arith) (λ e g. omega arith) (ap is_unassigned code_rcl) {Q = Opened} d s
        (rw code_rcl (rcl_opens (captions_of d) size)) (rw code_rcl (rcl_kept (captions_of d))) in
        let empties = leads_control channel cl cu 0x14 0x2e 0 (omega arith) (omega arith) (omega arith) (omega arith) (λ e g. omega arith) (ap is_unassigned code_enm) {P = Opened} {Q = Loaded memory 0}
        (λ c o. rw code_enm (enm_loads memory c o)) (λ c o. rw code_enm (enm_kept c)) in
        led_then channel (bytes_of channel rcl_item ++ bytes_of channel enm_item) (rows_tape_of channel memory 15) (led_then channel (bytes_of channel rcl_item) (bytes_of channel enm_item) opens empties)
        (rows_lead channel cl cu memory valid writable 15 (omega arith))

    -- EOC, which the desk does not expect behind what loads the memory, shows it at once
    pub eoc_turns : (d : Desk) → Under channel (Loaded memory 960) d → Turned channel memory d (bytes_of channel eoc_item)
    eoc_turns d u =
        let shows = eoc_shows memory (captions_of d) whole u.holds in
        turned_control 0x14 0x2f 0 (omega arith) (omega arith) (omega arith) (omega arith) (ap is_unassigned code_eoc) {screen = memory} d u.selected (λ e g. u.free (sym e) (sym g))
        (rw code_eoc shows.0) (rw code_eoc shows.1)

    pub tape_turns : (d : Desk) → d.state.selected ≡ channel → 1920 ≤ length d.cells → Turned channel memory d (tape_of memory channel)
    unfolding tape_of
    tape_turns d s size = let a = loads d s size in led_turned (loading_of memory channel) (bytes_of channel eoc_item) a (eoc_turns a.to a.under)

    -- no viewer sees a caption half loaded: behind each pair of the tape what stood before is displayed, and behind each of the last two the memory
    pub tape_films : (d : Desk) → d.state.selected ≡ channel → 1920 ≤ length d.cells
        → film_of d (tape_of memory channel) ≡ replicate (pairs_of (tape_of memory channel) - 2) (displayed_of d.cells) ++ (memory ∷ memory ∷ [])
    tape_films d s size =
        let a = tape_turns d s size in
        let n = a.size in
        let e : a.count ≡ pairs_of (tape_of memory channel) - 2 = omega (arith, pairs_of_half (tape_of memory channel)) in
        ap (film_of d) (sym (append-nil (tape_of memory channel))) ∙ a.films [] ∙ ap (λ (k : ℕ). replicate k (displayed_of d.cells) ++ (memory ∷ memory ∷ [])) e

    -- the displayed half after the tape
    pub tape_shows : (d : Desk) → d.state.selected ≡ channel → 1920 ≤ length d.cells → displayed_of (play_of d (tape_of memory channel)).cells ≡ memory
    tape_shows d s size =
        let a = tape_turns d s size in
        let e : play_of d (tape_of memory channel) ≡ a.to = ap (play_of d) (sym (append-nil (tape_of memory channel))) ∙ a.plays [] in
        ap (λ (x : Desk). displayed_of x.cells) e ∙ a.shown
