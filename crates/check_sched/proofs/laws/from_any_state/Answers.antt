use Rattle.check_sched.proofs.FromStateLaws.{pending_from}
use Rattle.check_sched.proofs.StandingLaws.{state_standing}
use Rattle.check_sched.proofs.StepLaws.{after_limit}
use Rattle.check_sched.proofs.laws.from_any_state.Goals as goal

pub returns-clause-limit : goal.returns-clause-limit
returns-clause-limit c = λ s calls is. after_limit s calls is.limit

pub returns-clause-never_checked : goal.returns-clause-never_checked
returns-clause-never_checked c = λ s calls object standing is in_range never. pending_from s calls object standing is in_range never

pub returns-clause-standings : goal.returns-clause-standings
returns-clause-standings c = λ s history object is in_range. state_standing s history object is in_range
