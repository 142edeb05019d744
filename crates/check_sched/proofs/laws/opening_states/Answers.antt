use Rattle.check_sched.proofs.NewObjectLaws.{opening_can_be}
use Rattle.check_sched.proofs.laws.opening_states.Goals as goal

pub returns : goal.returns
returns c = λ setup start valid m. opening_can_be setup start valid m
