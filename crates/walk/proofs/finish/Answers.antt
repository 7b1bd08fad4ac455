-- `finish` meets its contract. Assumes nothing.
use mathlib.Core.Path.{refl}
use native.Mathlib.Omega.{arith}
use Rattle.lines.proofs.Laws.{put_then}
use Rattle.walk.specs.Walk.{finished_of, finish_text_of}
use Rattle.walk.proofs.finish.Goals as goal

pub returns : goal.returns
unfolding finished_of finish_text_of
returns c = let room = c.put_lines-m.ensures.room in (refl, put_then c.args.out.now _ _ c.put_lines-m.ensures (omega arith) c.put_refusal.ensures)
