use Rattle.check_sched.proofs.FlappingLaws.{opened_flapping, opened_results}
use Rattle.check_sched.proofs.laws.flaps_by_history.Goals as goal

pub returns-clause-fold : goal.returns-clause-fold
returns-clause-fold c = λ setup start history object legal. opened_flapping setup start history object legal

pub returns-clause-last : goal.returns-clause-last
returns-clause-last c = λ setup start history object legal. opened_results setup start history object legal
