use Rattle.std.proofs.Common.{refl}
use Rattle.check_sched.specs.State.{opening}
use Rattle.check_sched.proofs.RunLaws.{taken_next, taken_once}
use Rattle.check_sched.proofs.laws.runs_once.Goals as goal

pub returns-clause-once : goal.returns-clause-once
returns-clause-once c = λ setup start front back e object run other legal is. taken_once (opening setup start) front back e object run other legal is

pub returns-clause-numbers : goal.returns-clause-numbers
returns-clause-numbers c = λ setup start front back e object run legal is. taken_next (opening setup start) front back e object run refl legal is
