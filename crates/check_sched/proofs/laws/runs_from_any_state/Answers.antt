use Rattle.check_sched.proofs.RunLaws.{taken_after, taken_number, taken_once}
use Rattle.check_sched.proofs.laws.runs_from_any_state.Goals as goal

pub returns-clause-once : goal.returns-clause-once
returns-clause-once c = λ s front back e object run other legal is. taken_once s front back e object run other legal is

pub returns-clause-out : goal.returns-clause-out
returns-clause-out c = λ s front back e object run other legal is out. taken_after s front back e object run other legal is out

pub returns-clause-numbers : goal.returns-clause-numbers
returns-clause-numbers c = λ s front back e object run legal is. taken_number s front back e object run legal is
