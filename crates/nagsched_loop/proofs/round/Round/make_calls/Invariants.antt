use Rattle.check_desk.specs.Passes.{pass_of}
use Rattle.nagsched_loop.specs.Loop.{IsReturned}
use Rattle.nagsched_loop.proofs.RoundLemmas.{HasAnswered}
use Rattle.nagsched_loop.proofs.round.Round.make_calls.Given as goal

abbrev pub invariant-loop-call : goal.invariant-loop-call
invariant-loop-call g l =
    IsReturned l.self.desk.now (pass_of l.initial.pass) l.initial.runs.items l.runs.items l.pass
    × HasAnswered g.O.Environment.does l._call (pass_of l.initial.pass) (pass_of l.pass) l.initial.runs.items l.runs.items l.initial.environment l.environment
