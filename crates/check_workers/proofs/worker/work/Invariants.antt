use Rattle.std.proofs.Common.{take}
use Rattle.check_desk.specs.Desks.{IsPassOf}
use Rattle.check_desk.specs.Passes.{pass_of}
use Rattle.check_workers.specs.Tallies.{IsSum}
use Rattle.check_workers.proofs.ShiftLemmas.{IsWorking}
use Rattle.check_workers.proofs.worker.work.Given as goal

abbrev pub invariant-loop-now : goal.invariant-loop-now
invariant-loop-now g l =
    IsPassOf l.desk l.pass × IsWorking (g.P.Plugin.allows l.plugin) (take l.now-index l.moments) (pass_of l.initial.pass) (pass_of l.pass) l.tally
    × IsSum l.tally
