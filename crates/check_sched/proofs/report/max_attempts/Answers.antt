use Rattle.std.proofs.Common.{◌≤◌, ◌∙◌, subst, sym}
use Rattle.check_sched.proofs.ReportLaws.{few_attempts, max_attempts_at, object_read_in_range, one_attempt}
use Rattle.check_sched.proofs.report.max_attempts.Goals as goal

pub attempts_of-requires : goal.attempts_of-requires
attempts_of-requires c =
    few_attempts c.object.result.now (object_read_in_range c.args.setup.now c.args.number c.object.result.now c.requires.valid_setup c.object.ensures)

pub returns-clause-value : goal.returns-clause-value
returns-clause-value c = c.attempts_of.ensures ∙ max_attempts_at _ c.object.result.now c.object.ensures

pub returns-clause-nonempty : goal.returns-clause-nonempty
returns-clause-nonempty c =
    subst (λ n. 1 ≤ n) (sym c.attempts_of.ensures)
    (one_attempt c.object.result.now (object_read_in_range c.args.setup.now c.args.number c.object.result.now c.requires.valid_setup c.object.ensures))
