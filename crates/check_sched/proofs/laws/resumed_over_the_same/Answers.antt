use Rattle.check_sched.proofs.SavedLaws.{resumed_same}
use Rattle.check_sched.proofs.laws.resumed_over_the_same.Goals as goal

pub returns : goal.returns
returns c = λ s start is. resumed_same s start is
