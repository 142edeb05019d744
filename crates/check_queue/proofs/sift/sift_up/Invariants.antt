use Rattle.check_queue.specs.Positions.{times_in}
use Rattle.check_queue.proofs.HeapLaws.{Rises}
use Rattle.check_queue.proofs.sift.sift_up.Given as goal

abbrev pub invariant-loop-hole : goal.invariant-loop-hole
invariant-loop-hole l = Rises l.entries l.positions l.len l.hole l.held (times_in l.initial.entries l.initial.positions)

abbrev pub decreases-loop-hole : goal.decreases-loop-hole
decreases-loop-hole l = l.hole
