use Rattle.check_sched.proofs.PendingLaws.{opened_pending}
use Rattle.check_sched.proofs.laws.never_checked.Goals as goal

pub returns : goal.returns
returns c = λ setup start calls object standing in_range never. opened_pending setup start calls object standing in_range never
