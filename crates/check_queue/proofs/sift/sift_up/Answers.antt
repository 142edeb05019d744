use Rattle.std.proofs.Common.{Some, ap, sym, ◌∙◌, ◌-◌, ◌/◌, arith}
use Rattle.std.proofs.Math.ListN.{set}
use Rattle.check_queue.proofs.HeapLaws.{below_parent, rests, rises}
use Rattle.check_queue.proofs.PositionLaws.{times_write}
use Rattle.check_queue.proofs.sift.sift_up.Goals as goal
use Rattle.check_queue.proofs.sift.sift_up.Goals.{else-loop-hole-test, then-loop-hole-test+then-not-is_before}

pub loop-hole-preserved : goal.loop-hole-preserved
loop-hole-preserved c =
    let l = c.loop-hole in let p = c.put_at.ensures in
    rw (p.entries, p.positions)
    (rises _ _ _ l.hole ((l.hole - 1) / 2) _ _ (omega arith) (omega arith) (sym c.if-not-is_before.ensures) l.invariant)

pub returns-clause-ordered : goal.returns-clause-ordered
returns-clause-ordered c =
    let l = c.loop-hole in let p = c.put_at-2.ensures in
    rw (p.entries, p.positions) (rests _ _ _ _ _ l.invariant.kept.around l.invariant.below l.invariant.outside (λ i b d. elim c.loop-hole-test.branch [
      | else-loop-hole-test w ↦ absurd (omega arith)
      | then-loop-hole-test+then-not-is_before w ↦
          below_parent _ l.hole ((l.hole - 1) / 2) _ (omega arith) (omega arith) (sym w.if-not-is_before.ensures) i b d
    ]))

pub returns-clause-times : goal.returns-clause-times
returns-clause-times c =
    let i = c.loop-hole.invariant in let p = c.put_at-2.ensures in
    rw (p.entries, p.positions)
    (times_write _ _ _ _ _ i.kept.around.linked i.kept.around.inside ∙ ap (λ ts. set ts c.args.held.number (Some c.args.held.time)) i.kept.times)
