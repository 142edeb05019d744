use Rattle.check_sched.proofs.FromStateLaws.{step_started}
use Rattle.check_sched.proofs.laws.start_is_not_read.Goals as goal

pub returns : goal.returns
returns c = λ s start call. step_started start s call
