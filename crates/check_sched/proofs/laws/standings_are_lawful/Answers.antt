use Rattle.check_sched.proofs.StandingLaws.{opened_standing}
use Rattle.check_sched.proofs.laws.standings_are_lawful.Goals as goal

pub returns : goal.returns
returns c = λ setup start history object valid in_range. opened_standing setup start history object valid in_range
