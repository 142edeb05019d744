use Rattle.std.proofs.Common.{◌-◌, ◌∙◌, arith}
use Rattle.check_queue.proofs.HeapLaws.{sinks}
use Rattle.check_queue.proofs.PositionLaws.{end_put_back}
use Rattle.check_queue.proofs.sift.close_hole.Goals as goal

pub loop-hole-preserved : goal.loop-hole-preserved
loop-hole-preserved c =
    let p = c.put_at.ensures in
    rw (p.entries, p.positions) (sinks _ _ _ _ _ _ c.first_child-child.ensures c.loop-hole.invariant)

pub returns-then-hole-len-clause-times : goal.returns-then-hole-len-clause-times
returns-then-hole-len-clause-times c =
    let i = c.loop-hole.invariant in let inside = i.around.inside in
    c.sift_up.ensures.times ∙ end_put_back _ _ c.args.len (c.args.len - 1) c.loop-hole.hole (omega arith) (omega arith) i.around.linked ∙ i.times
