use Rattle.check_states.proofs.VerdictLaws.{checked_is_lawful, verdict_is_lawful}
use Rattle.check_states.proofs.verdicts.verdict.Goals as goal

pub kind_and_attempt-kind-requires-clause-lawful :
    goal.kind_and_attempt-kind-requires-clause-lawful
kind_and_attempt-kind-requires-clause-lawful c =
    rw c.as_checked-before.ensures (checked_is_lawful c.args.before c.args.max c.requires.attempts c.requires.lawful)

pub returns-clause-lawful : goal.returns-clause-lawful
returns-clause-lawful c =
    rw (c.last_hard_after.ensures, c.kind_and_attempt-kind.ensures, c.as_checked-before.ensures)
    (verdict_is_lawful c.args.before c.args.found c.args.max c.args.host_up c.args.flapping c.requires.attempts c.requires.lawful)
