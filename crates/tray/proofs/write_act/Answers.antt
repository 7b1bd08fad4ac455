-- `write_act` meets its contract. Assumes nothing.
use Prim.Native.Nat.{◌*◌}
use native.Mathlib.Omega.{arith}
use lib.ListN.{length-set}
use Rattle.facts.proofs.Over.{over-three}
use Rattle.tray.proofs.write_act.Goals as goal

pub bounds-log-at-2 : goal.bounds-log-at-2
bounds-log-at-2 c = simp length-set (omega arith)

pub bounds-log-at-3 : goal.bounds-log-at-3
bounds-log-at-3 c = simp length-set (omega arith)

pub returns : goal.returns
returns c = over-three c.args.log.now (c.args.acts * 3) c.args.act.kind c.args.act.first c.args.act.second
