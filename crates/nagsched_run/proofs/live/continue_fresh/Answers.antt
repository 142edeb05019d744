use Rattle.std.proofs.Common.{[]}
use Rattle.nagsched_protocol.proofs.LiveInputLemmas.{Consumes-none}
use Rattle.nagsched_protocol.proofs.WrittenLemmas.{Keeps-same}
use Rattle.nagsched_run.proofs.ContinuationLemmas.{gone_opened, gone_unwritten, opened_later}
use Rattle.nagsched_run.proofs.live.continue_fresh.Goals as goal

pub returns-in-Ok-clause-continuation : goal.returns-in-Ok-clause-continuation
returns-in-Ok-clause-continuation g c =
    let a = c.answer_with.ensures in
    gone_opened _ _ _ _ _ _ _ _ _ c.requires.end a.outcome a.none (rw (c.in-Ok.ensures) at a.lines)

pub returns-in-Err-clause-continuation : goal.returns-in-Err-clause-continuation
returns-in-Err-clause-continuation g c =
    gone_unwritten _ _ _ _ [] _ _ _ _ _ (Consumes-none _) c.requires.end (Keeps-same _)

pub returns-in-Ok-clause-spent : goal.returns-in-Ok-clause-spent
returns-in-Ok-clause-spent g c =
    opened_later c.args.form _ _ _ _ _ _ _ c.answer_with.ensures.spent
