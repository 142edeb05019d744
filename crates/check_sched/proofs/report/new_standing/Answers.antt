use Rattle.std.proofs.Common.{◌∙◌}
use Rattle.check_objects.specs.Configuration.{host_of}
use Rattle.check_states.specs.Verdict.{verdict_on}
use Rattle.check_sched.specs.Report.{is_host_up}
use Rattle.check_sched.specs.State.{max_attempts_of, standing_at}
use Rattle.check_sched.proofs.ReportLaws.{verdict_by_host}
use Rattle.check_sched.proofs.report.new_standing.Goals as goal

pub verdict-requires-clause-attempts : goal.verdict-requires-clause-attempts
verdict-requires-clause-attempts c = c.max_attempts-max.ensures.nonempty

pub verdict-requires-clause-lawful : goal.verdict-requires-clause-lawful
verdict-requires-clause-lawful c = rw (c.standing_at-before.ensures, c.max_attempts-max.ensures.value) c.requires.before.lawful

pub verdict-requires-clause-same_sort : goal.verdict-requires-clause-same_sort
verdict-requires-clause-same_sort c = rw (c.standing_at-before.ensures, c.requires.before.sort) c.requires.same_sort

pub returns : goal.returns
returns c =
    c.verdict.ensures.table
    ∙ (λ i. verdict_on (c.standing_at-before.ensures i) c.args.found (c.max_attempts-max.ensures.value i) c.is_host_up-host_up.result c.args.flapping)
    ∙ verdict_by_host (standing_at c.args.standings.now c.args.number) c.args.found (max_attempts_of c.args.setup.now c.args.number)
    c.is_host_up-host_up.result (is_host_up (host_of c.args.setup.now c.args.number) c.args.standings.now) c.args.flapping c.is_host_up-host_up.ensures
