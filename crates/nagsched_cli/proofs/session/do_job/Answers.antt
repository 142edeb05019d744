use Rattle.std.proofs.Common.{refl}
use Rattle.nagsched_jobs.specs.Drill.{DrillEnded, drill_note}
use Rattle.nagsched_cli.proofs.NoteLemmas.{noting, noting_nothing}
use Rattle.nagsched_cli.proofs.session.do_job.Goals as goal

pub returns-in-Run : goal.returns-in-Run
returns-in-Run g c = rw c.in-Run.is c.run_as.ensures

pub returns-in-Live : goal.returns-in-Live
returns-in-Live g c = rw c.in-Live.is (noting_nothing c.live.result c.args.note.now c.live.ensures)

pub returns-in-Check : goal.returns-in-Check
returns-in-Check g c = rw c.in-Check.is (noting_nothing c.check.result c.args.note.now c.check.ensures.ending)

pub returns-in-SetupLine : goal.returns-in-SetupLine
returns-in-SetupLine g c = rw c.in-SetupLine.is (noting_nothing c.write_setup_line.result c.args.note.now c.write_setup_line.ensures)

pub returns-in-Drill : goal.returns-in-Drill
returns-in-Drill g c =
    rw c.in-Drill.is (noting c.drill.result c.args.note.now c.drill.new.note (λ (drill : DrillEnded _ _ _ _ _). drill_note drill.input) c.drill.ensures)

pub returns-in-Schema : goal.returns-in-Schema
returns-in-Schema g c = rw c.in-Schema.is (noting_nothing c.print_schema.result c.args.note.now (refl, c.print_schema.ensures))
