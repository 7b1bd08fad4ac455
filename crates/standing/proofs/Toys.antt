-- A decoder of no use taken through the calls, with small numbers, so that the definitions are seen to mean what they say, and with the paper's.
-- Assumes nothing.
use mathlib.Core.Path.{◌≡◌, refl, ap, ◌∙◌}
use mathlib.Core.List.{List, [], ◌∷◌, ◌++◌, map}
use mathlib.Core.Bool.{Bool}
use Prim.Native.Nat.{ℕ, ◌+◌, ◌*◌, ◌/◌, ◌%◌, ◌<◌, ◌≤◌}
use native.Mathlib.Omega.{arith}
use borrow.Author.Tests.{le-leb}
use lib.Dec.{leb}
use lib.ListN.{get_or, replicate, length-replicate}
use Rattle.standing.specs.Acts.{pair, select, is_channel, first_of, second_of, act_of, is_formed, are_formed}
use Rattle.standing.specs.Decoder.{Decoder, Lawful}
use Rattle.standing.specs.Calls.{three, gives, Outcome, done, refused, is_sized, opened, open_of, keep_of, acted_of, give_of, take_of, select_of, start_of, is_start, is_replayable, replay_of, restored_of, stepped_of, back_of}
use Rattle.standing.specs.Runs.{Ask, give, back, own, other, Call, call, mine, alone, call_of, after, Fair, standing, owed}
use Rattle.standing.proofs.Runs.{fair_own}
use Rattle.standing.proofs.Standing.{what_stands_remains, same_standing}

-- it counts acts and remembers the last one's bytes
record Toy : Type 0 where
  acts : ℕ
  first : ℕ
  second : ℕ

abbrev toy_record : ℕ → Toy → List ℕ
toy_record rest d = d.acts % 256 ∷ d.acts / 256 ∷ d.first ∷ d.second ∷ replicate rest 0

abbrev toy_read : List ℕ → Toy
toy_read bs = record { acts = get_or bs 0 0 + 256 * get_or bs 1 0; first = get_or bs 2 0; second = get_or bs 3 0 }

-- records of 4 bytes and `rest` zeros, and a test of them
abbrev tested : (List ℕ → Bool) → ℕ → ℕ → ℕ → ℕ → Decoder
tested test rest spacing slots limit = record {
  Desk = Toy;
  fresh = record { acts = 0; first = 0; second = 0 };
  step = λ d a. record { acts = d.acts + 1; first = first_of a; second = second_of a };
  count = λ d. d.acts;
  record_of = toy_record rest;
  read_of = toy_read;
  is_valid = test;
  size = 4 + rest;
  spacing = spacing;
  slots = slots;
  limit = limit;
}

abbrev toy : ℕ → ℕ → ℕ → ℕ → Decoder
toy rest spacing slots limit = tested (λ bs. leb (toy_read bs).acts limit) rest spacing slots limit

module _ (rest spacing slots limit : ℕ) (positive : 0 < spacing) (enough : limit / spacing ≤ slots) where
  toy_reads : (d : Toy) → toy_read (toy_record rest d) ≡ d
  toy_reads d =
      let e : d.acts % 256 + 256 * (d.acts / 256) ≡ d.acts = omega arith in
      λ i. record { acts = e i; first = d.first; second = d.second }

  toy_lawful : Lawful (toy rest spacing slots limit)
  toy_lawful = record {
    Sound = λ d. d.acts ≤ limit;
    fresh_sound = omega arith;
    count_fresh = refl;
    step_keeps_sound = λ d a s h m. omega arith;
    count_step = λ d a s h m. refl;
    length-record_of = λ d s. omega (arith, length-replicate {A = ℕ} rest 0);
    is_valid-record_of = λ d s. ap (λ (e : Toy). leb e.acts limit) (toy_reads d) ∙ le-leb d.acts limit s;
    read_of_record_of = λ d s. toy_reads d;
    spacing_positive = positive;
    slots_enough = enough;
  }

-- Small numbers: records of 4 bytes, a slot for each 2 acts, 3 slots, 6 acts at most.

abbrev small : Decoder
small = toy 0 2 3 6

-- three pairs, back 2 across slot 1, channel 3, channel 2 with a short log, channel 2
abbrev calls : List Call
calls =
    mine (give (pair 1 2)) ∷ mine (give (pair 3 4)) ∷ mine (give (pair 5 6)) ∷ mine (back 2) ∷ mine (give (select 3))
    ∷ call (give (select 2)) own (other (9 ∷ [])) own ∷ mine (give (select 2)) ∷ []

calls_fair : Fair small (opened small) calls
unfolding is_channel is_formed are_formed is_sized opened keep_of acted_of give_of start_of is_start is_replayable replay_of restored_of stepped_of back_of call_of
calls_fair = (
  omega arith,
  λ e. refl,
  (
    omega arith,
    λ e. refl,
    (omega arith, λ e. refl, (tt, λ e. refl, (tt, λ e. refl, (tt, λ e. absurd (omega (arith, e)), (tt, λ e. refl, tt))))),
  ),
)

-- the pair 1 2 and channel 2 stand; the pair 3 4 is gone from slot 1, where channel 2 is kept
calls_shown : (standing small (opened small) [] calls ≡ pair 1 2 ∷ select 2 ∷ [])
    × (after small (opened small) calls ≡ three (2 ∷ 0 ∷ 2 ∷ 0 ∷ []) (1 ∷ 1 ∷ 2 ∷ 2 ∷ 2 ∷ 0 ∷ replicate 12 0) (2 ∷ 0 ∷ 2 ∷ 0 ∷ replicate 8 0))
unfolding is_channel is_formed are_formed is_sized opened keep_of acted_of give_of start_of is_start is_replayable replay_of restored_of stepped_of back_of call_of
calls_shown = (refl, refl)

-- six pairs fill log and tray; five and back 2 replay the third from slot 1, and leave slot 2 and the log behind it zero
abbrev pairs : List Ask
pairs = give (pair 1 2) ∷ give (pair 3 4) ∷ give (pair 5 6) ∷ give (pair 7 8) ∷ give (pair 9 10) ∷ []

abbrev desk : List ℕ
desk = 6 ∷ 0 ∷ 11 ∷ 12 ∷ []

abbrev log : List ℕ
log = 1 ∷ 1 ∷ 2 ∷ 1 ∷ 3 ∷ 4 ∷ 1 ∷ 5 ∷ 6 ∷ 1 ∷ 7 ∷ 8 ∷ 1 ∷ 9 ∷ 10 ∷ 1 ∷ 11 ∷ 12 ∷ []

abbrev tray : List ℕ
tray = 2 ∷ 0 ∷ 3 ∷ 4 ∷ 4 ∷ 0 ∷ 7 ∷ 8 ∷ 6 ∷ 0 ∷ 11 ∷ 12 ∷ []

pairs_shown : (after small (opened small) (map mine (pairs ++ give (pair 11 12) ∷ [])) ≡ three desk log tray)
    × (after small (opened small) (map mine (pairs ++ back 2 ∷ []))
    ≡ three (3 ∷ 0 ∷ 5 ∷ 6 ∷ []) (1 ∷ 1 ∷ 2 ∷ 1 ∷ 3 ∷ 4 ∷ 1 ∷ 5 ∷ 6 ∷ replicate 9 0) (2 ∷ 0 ∷ 3 ∷ 4 ∷ replicate 8 0))
unfolding is_channel is_formed are_formed act_of is_sized opened keep_of acted_of give_of start_of is_start is_replayable replay_of restored_of stepped_of back_of call_of
pairs_shown = (refl, refl)

-- What calls on those buffers leave: an opening, a pair too many, a step back by all.
outcomes_shown : (open_of small desk log tray ≡ done 0 (three (replicate 4 0) (replicate 18 0) (replicate 12 0)))
    × (take_of small desk log tray 9 9 ≡ refused 3 (three desk log tray))
    × (back_of small desk log tray 6 ≡ done 0 (three (replicate 4 0) (replicate 18 0) (replicate 12 0)))
unfolding is_channel is_formed are_formed act_of is_sized opened open_of keep_of acted_of give_of start_of is_start is_replayable replay_of restored_of stepped_of back_of
outcomes_shown = (refl, refl, refl)

-- a decoder whose fresh record is not valid
abbrev stale : Decoder
stale = tested (λ bs. leb 1 (toy_read bs).acts) 0 2 3 6

-- What calls on those buffers give, some of them damaged: 1, 6 for the desk, 2, 3, 4, 6 for start and acts.
abbrev tried : List Outcome
tried =
    open_of small desk (9 ∷ []) tray
    -- a short log with channel 3; an invalid desk with channel 3; channels 3 and 0 where no act fits, and channel 1 there
    ∷ select_of small desk (9 ∷ []) tray 3
    ∷ select_of small (7 ∷ 0 ∷ 0 ∷ 0 ∷ []) log tray 3
    ∷ select_of small desk log tray 3
    ∷ select_of small desk log tray 0
    ∷ select_of small desk log tray 1
    -- back by more than stand, over slots that are no starts, and where the fresh record is none
    ∷ back_of small desk log (replicate 12 9) 7
    ∷ back_of stale desk log tray 7
    -- back to act 3: slot 1 is invalid, or has another count; act 3 is of no kind, of no channel, or has no 0 behind its channel
    ∷ back_of small desk log (7 ∷ 0 ∷ 0 ∷ 0 ∷ replicate 8 0) 3
    ∷ back_of small desk log (3 ∷ 0 ∷ 0 ∷ 0 ∷ replicate 8 0) 3
    ∷ back_of small desk (replicate 6 0 ++ 3 ∷ 1 ∷ 0 ∷ replicate 9 0) tray 3
    ∷ back_of small desk (replicate 6 0 ++ 2 ∷ 3 ∷ 0 ∷ replicate 9 0) tray 3
    ∷ back_of small desk (replicate 6 0 ++ 2 ∷ 1 ∷ 1 ∷ replicate 9 0) tray 3
    -- no slot but the start and no act but those behind it is looked at
    ∷ back_of small desk (replicate 6 0 ++ 2 ∷ 1 ∷ 0 ∷ replicate 9 0) (2 ∷ 0 ∷ 0 ∷ 0 ∷ replicate 8 9) 3
    ∷ back_of small desk (replicate 18 9) (replicate 8 9 ++ 6 ∷ 0 ∷ 0 ∷ 0 ∷ []) 0
    -- and no byte of log and tray where an act is given
    ∷ take_of small (3 ∷ 0 ∷ 0 ∷ 0 ∷ []) (replicate 18 9) (replicate 12 9) 1 2
    ∷ []

tried_shown : map (λ o. o.given) tried
    ≡ gives 1 0 ∷ gives 1 0 ∷ gives 6 0 ∷ gives 2 0 ∷ gives 2 0 ∷ gives 3 0 ∷ gives 4 0 ∷ gives 4 0
    ∷ gives 6 0 ∷ gives 6 0 ∷ gives 6 0 ∷ gives 6 0 ∷ gives 6 0 ∷ gives 0 3 ∷ gives 0 6 ∷ gives 0 4 ∷ []
unfolding is_channel is_formed are_formed act_of is_sized opened open_of keep_of acted_of give_of start_of is_start is_replayable replay_of restored_of stepped_of back_of
tried_shown = refl

-- The paper's numbers: records of 1,984 bytes, a slot for each 1,000 acts, 16 slots, 16,000 acts at most.

abbrev large : Decoder
large = toy 1980 1000 16 16000

large_lawful : Lawful large
large_lawful = toy_lawful 1980 1000 16 16000 (omega arith) (omega arith)

-- "The log is 48,000 bytes", "The tray is 31,744 bytes"
large_sizes : (large.size ≡ 1984) × (large.limit * 3 ≡ 48000) × (large.slots * large.size ≡ 31744)
large_sizes = (refl, refl, refl)

large_stands : (cs : List Call) → Fair large (opened large) cs
    → after large (opened large) cs ≡ after large (opened large) (alone (standing large (opened large) [] cs))
large_stands = what_stands_remains large large_lawful

-- the form of P13: what stands is found by the rule, and no byte is computed
abbrev around : List Ask
around = give (pair 1 2) ∷ give (pair 3 4) ∷ back 1 ∷ give (pair 5 6) ∷ []

abbrev straight : List Ask
straight = give (pair 1 2) ∷ give (pair 5 6) ∷ []

large_back : after large (opened large) (map mine around) ≡ after large (opened large) (map mine straight)
unfolding owed
large_back =
    same_standing large large_lawful (map mine around) (map mine straight) (fair_own large (opened large) around (omega arith))
    (fair_own large (opened large) straight (omega arith)) refl
