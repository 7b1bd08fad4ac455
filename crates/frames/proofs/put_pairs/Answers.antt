-- `put_pairs` meets its contract. Assumes nothing.
use mathlib.Core.Path.{ap, ◌∙◌}
use native.Mathlib.Omega.{arith}
use lib.ListN.{get_or}
use Rattle.std.specs.Slice.Iter.{chunks_exact_rest}
use Rattle.wire.specs.Line.{line_of}
use Rattle.wire.specs.Reel.{reel_of_raw}
use Rattle.items.proofs.LawsOfLaid.{rest_stop, rest_laid}
use Rattle.frames.proofs.Laws.{reel_more, reel_end}
use Rattle.frames.proofs.put_pairs.Goals as goal

pub loop-pair-preserved : goal.loop-pair-preserved
loop-pair-preserved c =
    let a = c.args in
    let l = c.loop-pair.invariant in
    let turn = c.in-Some.ensures.steps in
    let pair = c.in-Some.pair.now in
    let rest = chunks_exact_rest c.next.new.self in (
      turn.0 ∙ l.0,
      rest_laid a.out.now (reel_of_raw a.raw.now) c.requires l.1 (line_of (get_or pair 0 0) (get_or pair 1 0)) (reel_of_raw rest)
          (ap reel_of_raw turn.1.0 ∙ reel_more pair rest (turn.1.1 ∙ l.0)) c.put_line-n.ensures,
    )

pub returns : goal.returns
returns c =
    let a = c.args in
    let l = c.loop-pair.invariant in
    rest_stop a.out.now (reel_of_raw a.raw.now) c.requires l.1 (reel_end (chunks_exact_rest c.loop-pair.pair-iterator) (omega (arith, c.in-None.ensures.steps)))
