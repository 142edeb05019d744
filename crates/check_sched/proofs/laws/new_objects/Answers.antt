use Rattle.check_sched.proofs.NewObjectLaws.{new_is, resumed_nothing}
use Rattle.check_sched.proofs.laws.new_objects.Goals as goal

pub returns-clause-nothing : goal.returns-clause-nothing
returns-clause-nothing c = λ setup before start. resumed_nothing setup before start

pub returns-clause-scheduling : goal.returns-clause-scheduling
returns-clause-scheduling c = λ setup saved start object in_range new. (new_is setup saved start object in_range new).scheduling

pub returns-clause-standing : goal.returns-clause-standing
returns-clause-standing c = λ setup saved start object in_range new. (new_is setup saved start object in_range new).standing

pub returns-clause-results : goal.returns-clause-results
returns-clause-results c = λ setup saved start object in_range new. (new_is setup saved start object in_range new).results
