use Rattle.check_spread.proofs.BoundLemmas.{first_times_below}
use Rattle.check_sched.proofs.SaveLaws.{saved_of_state}
use Rattle.check_sched.proofs.ResumedLaws.{resumed_is_state}
use Rattle.check_sched.proofs.laws.resumed_states.Goals as goal

pub returns-clause-state_after_resume : goal.returns-clause-state_after_resume
returns-clause-state_after_resume c = λ setup saved start valid is m. resumed_is_state setup saved start valid is m (first_times_below setup start valid m)

pub returns-clause-saved : goal.returns-clause-saved
returns-clause-saved c = λ s is. saved_of_state s is
