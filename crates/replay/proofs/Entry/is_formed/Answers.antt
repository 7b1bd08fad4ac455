-- `is_formed` meets its contract. Assumes nothing.
use native.Mathlib.Omega.{arith}
use Rattle.replay.proofs.Laws.{is_formed_pair, is_formed_select, is_formed_neither}
use Rattle.replay.proofs.Entry.is_formed.Goals as goal

pub returns-in-1 : goal.returns-in-1
returns-in-1 c = let e = c.args.self in is_formed_pair e.kind e.first e.second (omega arith)

pub returns-in-2 : goal.returns-in-2
returns-in-2 c = let e = c.args.self in is_formed_select e.kind e.first e.second (omega arith) c.is_channel.ensures

pub returns-in_default : goal.returns-in_default
returns-in_default c = let e = c.args.self in is_formed_neither e.kind e.first e.second (λ k. omega arith) (λ k. omega arith)
