-- The calls open, take, select and back on the bytes of desk, log and tray: what each gives and leaves, refusals included.
-- Paper 01, "Record, log, tray" and "Numbers given back".
-- Assumes nothing.
use Rattle.std.specs.Prelude.{ℕ, zero, suc, ◌+◌, ◌-◌, ◌*◌, ◌/◌, ◌%◌, List, Bool, ◌&&◌, eqb, leb, ltb, length, replicate}
use Rattle.facts.specs.Choice.{pick}
use Rattle.facts.specs.Over.{over, part}
use Rattle.standing.specs.Acts.{Act, pair, select, is_allowed, entry_of, act_of, at_act, are_formed}
use Rattle.standing.specs.Decoder.{Decoder}

-- what a call is lent
pub record Buffers : Type 0 where
  pub desk : List ℕ
  pub log : List ℕ
  pub tray : List ℕ

abbrev pub three : List ℕ → List ℕ → List ℕ → Buffers
three d l t = record { desk = d; log = l; tray = t }

-- the table's "No." and "Gives"
pub record Given : Type 0 where
  pub number : ℕ
  pub value : ℕ

abbrev pub gives : ℕ → ℕ → Given
gives number value = record { number = number; value = value }

-- what a call gives, and what the three buffers hold at its end
pub record Outcome : Type 0 where
  pub given : Given
  pub left : Buffers

abbrev pub leaves : Given → Buffers → Outcome
leaves g w = record { given = g; left = w }

-- the same of the buffers one by one, as the calls in code end
abbrev pub outcome : Given → List ℕ → List ℕ → List ℕ → Outcome
outcome g d l t = leaves g (three d l t)

abbrev pub done : ℕ → Buffers → Outcome
done value w = leaves (gives 0 value) w

-- "A refusal changes no byte."
abbrev pub refused : ℕ → Buffers → Outcome
refused number w = leaves (gives number 0) w

-- go on where the test passes, refuse with the number where it fails
abbrev pub need : Bool → ℕ → Buffers → Outcome → Outcome
need test number w next = pick test next (refused number w)

-- "become zero": the bytes from place i on
abbrev pub blank_from : List ℕ → ℕ → List ℕ
blank_from l i = over l i (replicate (length l - i) 0)

module _ (D : Decoder) where
  open D use {Desk, fresh, step, count, record_of, read_of, is_valid, size, spacing, slots, limit}

  -- the lengths that the buffers must have: "three an act", "slots 1 to 16"
  unfoldable pub is_sized : ℕ → ℕ → ℕ → Bool
  is_sized d l t = eqb d size && (eqb l (limit * 3) && eqb t (slots * size))

  -- 1: "a lent buffer has a wrong length"
  abbrev pub is_fit : Buffers → Bool
  is_fit w = is_sized (length w.desk) (length w.log) (length w.tray)

  -- "Opening writes the fresh record and zeros."
  unfoldable pub opened : Buffers
  opened = three (record_of fresh) (replicate (limit * 3) 0) (replicate (slots * size) 0)

  -- "Opening refuses only with 1."
  unfoldable pub open_of : List ℕ → List ℕ → List ℕ → Outcome
  open_of d l t = need (is_fit (three d l t)) 1 (three d l t) (done 0 opened)

  -- "When the act count reaches 1,000 times s, the record is kept in slot s.": tray, count and record; slot 1 is the first
  unfoldable pub keep_of : List ℕ → ℕ → List ℕ → List ℕ
  keep_of t n r = pick (eqb (n % spacing) 0) (over t ((n / spacing - 1) * size) r) t

  -- the act is done, logged behind those that stand, and its record kept where a slot is due
  unfoldable pub acted_of : Buffers → Act → Outcome
  acted_of w a =
      let d = read_of w.desk in
      let e = step d a in
      done (count e) (three (record_of e) (over w.log (count d * 3) (entry_of a)) (keep_of w.tray (count e) (record_of e)))

  -- "Order: 1, 6 for the desk, 2, 3": an act is given to the desk
  unfoldable pub give_of : Buffers → Act → Outcome
  give_of w a =
      need (is_fit w) 1 w
      (need (is_valid w.desk) 6 w
      (need (is_allowed a) 2 w
      (need (ltb (count (read_of w.desk)) limit) 3 w
      (acted_of w a))))

  -- take: a pair of raw bytes
  abbrev pub take_of : List ℕ → List ℕ → List ℕ → ℕ → ℕ → Outcome
  take_of d l t x y = give_of (three d l t) (pair x y)

  -- select: a channel
  abbrev pub select_of : List ℕ → List ℕ → List ℕ → ℕ → Outcome
  select_of d l t c = give_of (three d l t) (select c)

  -- "the start is slot s, .. or the fresh record if s is 0"
  unfoldable pub start_of : List ℕ → ℕ → List ℕ
  start_of t s = pick (eqb s 0) (record_of fresh) (part t ((s - 1) * size) size)

  -- "It must be valid with count 1,000 times s": the start's record
  unfoldable pub is_start : List ℕ → ℕ → Bool
  is_start r s = is_valid r && eqb (count (read_of r)) (s * spacing)

  -- "and the acts from there to m must be well formed", "s the whole thousands in m": log, tray and m
  unfoldable pub is_replayable : List ℕ → List ℕ → ℕ → Bool
  is_replayable l t m =
      let s = m / spacing in
      is_start (start_of t s) s && are_formed l (s * spacing) (m - s * spacing)

  -- "They are replayed": n acts behind the first `from`, the last one outermost, as a loop comes to it
  unfoldable pub replay_of : Desk → List ℕ → ℕ → ℕ → Desk
  replay_of d l from zero = d
  replay_of d l from (suc n) = step (replay_of d l from n) (at_act act_of l (from + n))

  -- the desk with m acts to stand, replayed from the start: log, tray and m
  unfoldable pub restored_of : List ℕ → List ℕ → ℕ → Desk
  restored_of l t m =
      let s = m / spacing in
      replay_of (read_of (start_of t s)) l (s * spacing) (m - s * spacing)

  -- "the log after act m and slots above s become zero"
  unfoldable pub stepped_of : Buffers → ℕ → Outcome
  stepped_of w m =
      done m (three (record_of (restored_of w.log w.tray m)) (blank_from w.log (m * 3)) (blank_from w.tray (m / spacing * size)))

  -- "Order: 1, 6 for the desk, .. 4, 6 for start and acts": "Back k, with m acts to stand"
  unfoldable pub back_of : List ℕ → List ℕ → List ℕ → ℕ → Outcome
  back_of d l t k =
      let w = three d l t in
      let m = count (read_of d) - k in
      need (is_fit w) 1 w
      (need (is_valid d) 6 w
      (need (leb k (count (read_of d))) 4 w
      (need (is_replayable l t m) 6 w
      (stepped_of w m))))
