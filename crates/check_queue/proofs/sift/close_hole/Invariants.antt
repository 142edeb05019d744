use Rattle.std.proofs.Common.{◌-◌}
use Rattle.check_queue.specs.Positions.{times_in}
use Rattle.check_queue.proofs.HeapLaws.{Sinks}
use Rattle.check_queue.proofs.sift.close_hole.Given as goal

abbrev pub invariant-loop-hole : goal.invariant-loop-hole
invariant-loop-hole l = Sinks l.entries l.positions l.len l.hole (times_in l.initial.entries l.initial.positions)

abbrev pub decreases-loop-hole : goal.decreases-loop-hole
decreases-loop-hole l = l.len - l.hole
