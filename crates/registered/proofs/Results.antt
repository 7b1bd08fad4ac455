-- What the register prints of written tapes: a caption's lines, dated from the first EOC of its tape to the frame before the next EOC or EDM, and nothing else. Assumes nothing.
use mathlib.Core.Path.{◌≡◌, sym, ap, ◌∙◌}
use mathlib.Core.List.{List, [], ◌∷◌, ◌++◌}
use Prim.Native.Nat.{ℕ, ◌+◌, ◌-◌, ◌/◌, ◌≤◌}
use native.Mathlib.Nat.{zero-add}
use native.Mathlib.Omega.{arith}
use lib.ListN.{take}
use Rattle.facts.specs.Choice.{pick}
use Rattle.wire.specs.Reel.{pairs_of, reel_of_raw}
use Rattle.wire.proofs.LawsOfReel.{pairs_of_half}
use Rattle.decode.specs.Step.{fresh_desk}
use Rattle.lines.specs.Line.{header, run, lines_of}
use Rattle.runs.specs.Frames.{frames_of}
use Rattle.runs.specs.Runs.{empty_screen, seen_of, runs_of}
use Rattle.runs.specs.Register.{text_of, register_of}
use Rattle.runs.proofs.Laws.{text_of_seen_of}
use Rattle.tape.specs.Item.{edm_item, bytes_of}
use Rattle.tape.specs.Tape.{tape_of}
use Rattle.tape.specs.Programme.{nulls_of, Cue, show, wait, programme_of, Showable, AreFair}
use Rattle.tape.proofs.LawsOfSizes.{programme_of_pairs}
use Rattle.writer.specs.Write.{write_tape_of}
use Rattle.script.specs.Script.{made_of, script_reel_of}
use Rattle.script.proofs.Results.{kept_fair, made_fits, script_reel_of_programme}
use Rattle.registered.specs.Turns.{turns_from, Caption, caption, cues_of, AllShowable, caption_runs_from}
use Rattle.registered.proofs.LawsOfFilm.{runs_of_film, register_of_runs}
use Rattle.registered.proofs.LawsOfCues.{fresh_shows}
use Rattle.registered.proofs.LawsOfTurns.{stretches_turns}
use Rattle.registered.proofs.LawsOfSeen.{is_seen_some, cues_of_fair, seen_captions, seen_open, text_of_one}
use Rattle.registered.proofs.LawsOfTapes.{cleared_is, cleared_pairs, open_is, open_pairs}
use Rattle.registered.proofs.LawsOfWritten.{write_tape_of_wrote}

-- Any programme: screens shown one after the other on either channel, at once or held, cleared or not between them.

pub programme_runs : (cs : List Cue) → AreFair cs → pairs_of (programme_of cs) ≤ 16000 → runs_of (frames_of (reel_of_raw (programme_of cs))) ≡ seen_of (turns_from 0 0 empty_screen cs)
programme_runs cs fair room = runs_of_film (programme_of cs) (programme_of_pairs cs) room ∙ ap seen_of (stretches_turns cs fair 0 0 empty_screen fresh_desk fresh_shows)

pub programme_registered : (cs : List Cue) → AreFair cs → pairs_of (programme_of cs) ≤ 16000 → register_of (reel_of_raw (programme_of cs)) ≡ header ++ text_of (turns_from 0 0 empty_screen cs)
programme_registered cs fair room =
    register_of_runs (programme_of cs) (programme_of_pairs cs) room
    ∙ ap (λ (l : List ℕ). header ++ l) (ap text_of (programme_runs cs fair room) ∙ text_of_seen_of (turns_from 0 0 empty_screen cs))

-- Captions one after the other, each cleared: each prints its own lines, and no more.

pub captions_runs : (cs : List Caption) → AllShowable cs → pairs_of (programme_of (cues_of cs)) ≤ 16000 → runs_of (frames_of (reel_of_raw (programme_of (cues_of cs)))) ≡ seen_of (caption_runs_from 0 cs)
captions_runs cs fair room = programme_runs (cues_of cs) (cues_of_fair cs fair) room ∙ seen_captions cs 0 0

pub captions_registered : (cs : List Caption) → AllShowable cs → pairs_of (programme_of (cues_of cs)) ≤ 16000
    → register_of (reel_of_raw (programme_of (cues_of cs))) ≡ header ++ text_of (caption_runs_from 0 cs)
captions_registered cs fair room =
    register_of_runs (programme_of (cues_of cs)) (programme_of_pairs (cues_of cs)) room
    ∙ ap (λ (l : List ℕ). header ++ l) (ap text_of (captions_runs cs fair room) ∙ text_of_seen_of (caption_runs_from 0 cs))

-- One caption, a tape of n pairs: it stands from frame n - 1, the first EOC, to frame n + w.

from_start : (memory : List ℕ) → 0 + pairs_of (tape_of memory 1) ≡ pairs_of (tape_of memory 1)
from_start memory = zero-add (pairs_of (tape_of memory 1))

pub caption_registered : (memory : List ℕ) (w : ℕ) → Showable memory → let n = pairs_of (tape_of memory 1) in n + w + 2 ≤ 16000
    → register_of (reel_of_raw (tape_of memory 1 ++ (nulls_of w ++ bytes_of 1 edm_item))) ≡ header ++ lines_of (run (n - 1) (n + w) memory)
caption_registered memory w fair room =
    let n = pairs_of (tape_of memory 1) in
    let e = from_start memory in
    ap (λ (s : List ℕ). register_of (reel_of_raw s)) (sym (cleared_is memory w))
    ∙ captions_registered (caption memory w 0 ∷ []) (fair, tt) (omega (arith, cleared_pairs memory w))
    ∙ ap (λ (l : List ℕ). header ++ l) (text_of_one (run (0 + n - 1) (0 + n + w) memory) ∙ (λ i. lines_of (run (e i - 1) (e i + w) memory)))

-- where the screen is not empty, it is the one run there is
pub caption_runs : (memory : List ℕ) (w : ℕ) → Showable memory → let n = pairs_of (tape_of memory 1) in n + w + 2 ≤ 16000 → (memory ≡ empty_screen → ⊥)
    → runs_of (frames_of (reel_of_raw (tape_of memory 1 ++ (nulls_of w ++ bytes_of 1 edm_item)))) ≡ run (n - 1) (n + w) memory ∷ []
caption_runs memory w fair room some =
    let e = from_start memory in
    ap (λ (s : List ℕ). runs_of (frames_of (reel_of_raw s))) (sym (cleared_is memory w))
    ∙ captions_runs (caption memory w 0 ∷ []) (fair, tt) (omega (arith, cleared_pairs memory w))
    ∙ (λ i. pick (is_seen_some memory some i) (run (e i - 1) (e i + w) memory ∷ []) [])

-- without EDM the end of the input closes it, at its last frame
pub open_caption_registered : (memory : List ℕ) (w : ℕ) → Showable memory → let n = pairs_of (tape_of memory 1) in n + w ≤ 16000
    → register_of (reel_of_raw (tape_of memory 1 ++ nulls_of w)) ≡ header ++ lines_of (run (n - 1) (n + w) memory)
open_caption_registered memory w fair room =
    let n = pairs_of (tape_of memory 1) in
    let e = from_start memory in
    let cs = show memory 1 0 ∷ wait w ∷ [] in
    let r = run (0 + n - 1) (0 + n + w) memory in
    ap (λ (s : List ℕ). register_of (reel_of_raw s)) (sym (open_is memory w))
    ∙ programme_registered cs ((fair, (omega arith, omega arith)), (tt, tt)) (omega (arith, open_pairs memory w))
    ∙ ap (λ (l : List ℕ). header ++ l)
    (sym (text_of_seen_of (turns_from 0 0 empty_screen cs)) ∙ ap text_of (seen_open memory 0 0 w) ∙ text_of_seen_of (r ∷ []) ∙ text_of_one r
    ∙ (λ i. lines_of (run (e i - 1) (e i + w) memory)))

-- The writer's call, the decoder and the register in one sentence: what a call that answers 0 left in its buffer, v bytes, then w null pairs and EDM twice, prints that memory's lines
-- from frame v / 2 - 1 to frame v / 2 + w, and nothing else.
pub written_caption_registered : (memory out : List ℕ) (w : ℕ) → let o = write_tape_of memory 1 out in
    o.number ≡ 0 → o.value / 2 + w + 2 ≤ 16000
    → register_of (reel_of_raw (take o.value o.out ++ (nulls_of w ++ bytes_of 1 edm_item))) ≡ header ++ lines_of (run (o.value / 2 - 1) (o.value / 2 + w) memory)
written_caption_registered memory out w done room =
    let a = write_tape_of_wrote memory 1 out done in
    let v = a.value in
    let e : pairs_of (tape_of memory 1) ≡ (write_tape_of memory 1 out).value / 2 = omega (arith, pairs_of_half (tape_of memory 1)) in
    ap (λ (s : List ℕ). register_of (reel_of_raw (s ++ (nulls_of w ++ bytes_of 1 edm_item)))) a.bytes
    ∙ caption_registered memory w a.showable (omega arith)
    ∙ ap (λ (k : ℕ). header ++ lines_of (run (k - 1) (k + w) memory)) e

-- Whatever a trainee types: the register of the reel that a script comes to is told by its cues.
pub typed_registered : (script : List ℕ) → register_of (script_reel_of script) ≡ header ++ text_of (turns_from 0 0 empty_screen (made_of script).last.to.cues)
typed_registered script = ap register_of (script_reel_of_programme script) ∙ programme_registered (made_of script).last.to.cues (kept_fair script) (made_fits script)
