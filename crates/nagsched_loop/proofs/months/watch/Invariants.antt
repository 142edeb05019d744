use Rattle.check_desk.specs.Passes.{pass_of}
use Rattle.nagsched_loop.specs.Loop.{IsReturned}
use Rattle.nagsched_loop.specs.Work.{AreRounds}
use Rattle.nagsched_loop.proofs.months.watch.Given as goal

abbrev pub invariant-loop-round : goal.invariant-loop-round
invariant-loop-round g l =
    IsReturned l.desk (pass_of l.initial.pass) l.initial.runs.items l.runs.items l.pass
    × AreRounds g.O.Environment.does l._round (pass_of l.initial.pass) (pass_of l.pass) l.initial.runs.items l.runs.items l.initial.environment l.environment
