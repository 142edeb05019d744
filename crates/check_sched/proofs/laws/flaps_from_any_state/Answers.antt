use Rattle.check_sched.proofs.FromStateLaws.{flapping_from, results_from}
use Rattle.check_sched.proofs.laws.flaps_from_any_state.Goals as goal

pub returns-clause-fold : goal.returns-clause-fold
returns-clause-fold c = λ s history object is legal. flapping_from s history object is legal

pub returns-clause-last : goal.returns-clause-last
returns-clause-last c = λ s history object is legal. results_from s history object is legal
