use Rattle.std.proofs.Common.{sym}
use Rattle.check_sched.proofs.ReportLaws.{standing_index}
use Rattle.check_sched.proofs.report.standing_at.Goals as goal

pub returns : goal.returns
returns c = sym (standing_index c.args.standings.now c.args.number _ c.requires)
