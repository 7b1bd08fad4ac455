-- Runs of calls, lent a desk's own buffers or any others, and the acts that stand after them.
-- Paper 01, "Record, log, tray" (standing acts) and "Numbers given back"; the archive's demand 3.
-- Assumes nothing.
use Rattle.std.specs.Prelude.{ℕ, ◌+◌, ◌-◌, ◌<◌, ◌≡◌, List, [], ◌∷◌, ◌++◌, map, Bool, true, false, ◌&&◌, eqb, leb, ltb, length, take}
use Rattle.facts.specs.Choice.{pick}
use Rattle.standing.specs.Acts.{Act, pair, select, is_allowed}
use Rattle.standing.specs.Decoder.{Decoder}
use Rattle.standing.specs.Calls.{Buffers, three, Given, gives, Outcome, give_of, back_of}

-- "pairs, channel selections and steps back"
pub data Ask : Type 0 where
  give : Act → Ask
  back : ℕ → Ask

-- a pair is two bytes
abbrev pub InBytes : Ask → Type 0
InBytes (give (pair x y)) = (x < 256) × (y < 256)
InBytes (give (select c)) = Unit {0}
InBytes (back k) = Unit {0}

-- a buffer that is lent: the desk's own one, or one that holds these bytes
pub data Lent : Type 0 where
  own : Lent
  other : List ℕ → Lent

-- a call, and the desk, the log and the tray that it is lent
pub data Call : Type 0 where
  call : Ask → Lent → Lent → Lent → Call

abbrev pub ask_of : Call → Ask
ask_of (call a d l t) = a

abbrev pub is_own : Lent → Bool
is_own own = true
is_own (other bytes) = false

-- "its own three buffers"
abbrev pub all_own : Call → Bool
all_own (call a d l t) = is_own d && (is_own l && is_own t)

-- what a lent buffer holds before the call, where the own one holds b
abbrev pub lent_of : Lent → List ℕ → List ℕ
lent_of own b = b
lent_of (other bytes) b = bytes

-- what the own buffer holds after the call, where it held b and the lent one now holds e; "nobody else writing to them"
abbrev pub held_of : Lent → List ℕ → List ℕ → List ℕ
held_of own b e = e
held_of (other bytes) b e = b

-- a call that is lent the own buffers
abbrev pub mine : Ask → Call
mine a = call a own own own

-- "given only the pairs and selections"
abbrev pub alone : List Act → List Call
alone acts = map mine (map give acts)

-- "a step back by k removes the last k of those standing"; a pair or a selection stands behind them
abbrev pub applied : List Act → Ask → List Act
applied acts (give a) = acts ++ a ∷ []
applied acts (back k) = take (length acts - k) acts

-- the acts that stand after a call that gave this: a refused one changes nothing
abbrev pub stands_by : Given → List Act → Ask → List Act
stands_by g acts a = pick (eqb g.number 0) (applied acts a) acts

module _ (D : Decoder) where
  open D use {limit}

  -- take or select, and back
  unfoldable pub call_of : Buffers → Ask → Outcome
  call_of w (give a) = give_of D w a
  call_of w (back k) = back_of D w.desk w.log w.tray k

  -- what a call gives, and leaves in the buffers that it is lent
  abbrev pub answered : Buffers → Call → Outcome
  answered w (call a d l t) = call_of (three (lent_of d w.desk) (lent_of l w.log) (lent_of t w.tray)) a

  -- the own buffers after a call
  abbrev pub called : Buffers → Call → Buffers
  called w (call a d l t) =
      let e = (answered w (call a d l t)).left in
      three (held_of d w.desk e.desk) (held_of l w.log e.log) (held_of t w.tray e.tray)

  -- the own buffers after a run
  abbrev pub after : Buffers → List Call → Buffers
  after w [] = w
  after w (c ∷ cs) = after (called w c) cs

  -- "with its own three buffers lent to every call that is not refused": a refused one may be lent any
  abbrev pub Fair : Buffers → List Call → Type 0
  Fair w [] = Unit {0}
  Fair w (c ∷ cs) = InBytes (ask_of c) × ((answered w c).given.number ≡ 0 → all_own c ≡ true) × Fair (called w c) cs

  -- "the pairs and selections that still stand", by what each call gave
  abbrev pub standing : Buffers → List Act → List Call → List Act
  standing w acts [] = acts
  standing w acts (c ∷ cs) = standing (called w c) (stands_by (answered w c).given acts (ask_of c)) cs

  -- what a call that is lent the own buffers must give where these acts stand: 2 before 3, 4, and never 1 or 6
  unfoldable pub owed : List Act → Ask → Given
  owed acts (give a) = pick (is_allowed a) (pick (ltb (length acts) limit) (gives 0 (length acts + 1)) (gives 3 0)) (gives 2 0)
  owed acts (back k) = pick (leb k (length acts)) (gives 0 (length acts - k)) (gives 4 0)

  -- the acts that stand, from the acts alone: no byte is looked at, and a call that is lent another buffer counts as refused
  abbrev pub ruled_by : List Act → Call → List Act
  ruled_by acts c = pick (all_own c) (stands_by (owed acts (ask_of c)) acts (ask_of c)) acts

  abbrev pub ruled : List Act → List Call → List Act
  ruled acts [] = acts
  ruled acts (c ∷ cs) = ruled (ruled_by acts c) cs
