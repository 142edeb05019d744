use Rattle.check_sched.specs.State.{opening}
use Rattle.check_sched.proofs.OpeningLaws.{opening_limit}
use Rattle.check_sched.proofs.StepLaws.{after_limit}
use Rattle.check_sched.proofs.laws.limit.Goals as goal

pub returns : goal.returns
returns c = λ setup start calls. after_limit (opening setup start) calls (opening_limit setup start)
