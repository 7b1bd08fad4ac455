-- Request 1, of the calls take and view: what a desk gives and shows while it takes the pairs of a tape. Assumes nothing.
use mathlib.Core.Path.{◌≡◌, ap, sym, ◌∙◌}
use mathlib.Core.Bool.{true}
use mathlib.Core.List.{List, [], ◌∷◌, ◌++◌}
use Prim.Native.Nat.{ℕ, ◌+◌, ◌-◌, ◌≤◌}
use native.Mathlib.Omega.{arith}
use lib.ListN.{length, replicate}
use Rattle.wire.specs.Reel.{pairs_of}
use Rattle.state.specs.State.{Desk}
use Rattle.decode.specs.Play.{displayed_of}
use Rattle.record.specs.Layout.{state_of, read_of}
use Rattle.valid.specs.Valid.{is_valid}
use Rattle.valid.proofs.Laws.{is_valid_sound}
use Rattle.standing.specs.Calls.{Buffers, is_fit}
use Rattle.replay.specs.Captions.{count_of, caption_decoder}
use Rattle.desk.specs.Looks.{view_of}
use Rattle.tape.specs.Writable.{are_cells, is_writable}
use Rattle.tape.specs.Tape.{tape_of}
use Rattle.tape.proofs.LawsOfTape.{tape_films, tape_shows}
use Rattle.showing.specs.Takes.{takes_of, answers_of, views_of, done_from}
use Rattle.showing.proofs.LawsOfTakes.{Went, view_of_displayed, takes_all}

-- a writable screen of 960 bytes, each of its cells one that a record may hold
module _ (memory : List ℕ) (whole : length memory ≡ 960) (cells : are_cells memory ≡ true) (writable : is_writable memory ≡ true)
    -- "A desk in any valid state with that channel selected, and with acts enough left before 16,000 for all the pairs"
    (channel : ℕ) (w : Buffers) (sized : is_fit caption_decoder w ≡ true) (valid : is_valid w.desk ≡ true) (selected : (state_of w.desk).selected ≡ channel)
    (room : count_of (read_of w.desk) + pairs_of (tape_of memory channel) ≤ 16000)
  where
    went : Went w (tape_of memory channel)
    went = takes_all (tape_of memory channel) w (record { sized = sized; valid = valid }) room

    -- what validity gives beside: the channel is 1 or 2, and the cells are there
    low : 1 ≤ channel
    low = let l = (is_valid_sound w.desk valid).selected_low in omega arith

    high : channel ≤ 2
    high = let h = (is_valid_sound w.desk valid).selected_high in omega arith

    wide : 1920 ≤ length (read_of w.desk).cells
    wide = let size = (is_valid_sound w.desk valid).captions.cells.size in omega arith

    -- ".. shows exactly that memory after them."
    pub written_tape_is_shown : view_of (takes_of w (tape_of memory channel)).desk ≡ memory
    written_tape_is_shown =
        view_of_displayed (takes_of w (tape_of memory channel)).desk went.fit.valid ∙ ap (λ (d : Desk). displayed_of d.cells) went.reads
        ∙ tape_shows channel low high memory whole cells writable (read_of w.desk) selected wide

    -- None of the calls is refused: each is done, and gives an act count one higher than the one before.
    pub written_tape_is_taken : answers_of w (tape_of memory channel) ≡ done_from (count_of (read_of w.desk)) (pairs_of (tape_of memory channel))
    written_tape_is_taken = went.answers

    -- No viewer sees a caption half loaded: what was in view stays there up to the last two pairs, and behind each of these it is the memory.
    pub written_tape_is_seen_whole : views_of w (tape_of memory channel) ≡ replicate (pairs_of (tape_of memory channel) - 2) (view_of w.desk) ++ (memory ∷ memory ∷ [])
    written_tape_is_seen_whole =
        went.views ∙ tape_films channel low high memory whole cells writable (read_of w.desk) selected wide
        ∙ ap (λ (v : List ℕ). replicate (pairs_of (tape_of memory channel) - 2) v ++ (memory ∷ memory ∷ [])) (sym (view_of_displayed w.desk valid))
