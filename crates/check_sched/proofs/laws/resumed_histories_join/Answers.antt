use Rattle.check_sched.proofs.StateLaws.{legal_joined, step_is_state}
use Rattle.check_sched.proofs.laws.resumed_histories_join.Goals as goal

pub returns-clause-states : goal.returns-clause-states
returns-clause-states c = λ s call is. step_is_state s call is

pub returns-clause-joined : goal.returns-clause-joined
returns-clause-joined c = λ s before later start is legal more. legal_joined s before later start is legal more
