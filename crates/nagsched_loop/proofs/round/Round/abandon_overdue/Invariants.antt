use Rattle.std.proofs.Common.{length}
use Rattle.check_desk.specs.Passes.{pass_of}
use Rattle.nagsched_loop.specs.Loop.{HasAbandoned, IsReturned}
use Rattle.nagsched_loop.proofs.round.Round.abandon_overdue.Given as goal

abbrev pub invariant-loop-run : goal.invariant-loop-run
invariant-loop-run g l =
    IsReturned l.self.desk.now (pass_of l.initial.pass) l.initial.runs.items l.runs.items l.pass
    × HasAbandoned l.self.moment (pass_of l.initial.pass) (pass_of l.pass) l.initial.runs.items l.runs.items

abbrev pub decreases-loop-run : goal.decreases-loop-run
decreases-loop-run g l = length l.runs.items
