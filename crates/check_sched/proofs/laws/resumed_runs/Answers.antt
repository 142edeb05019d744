use Rattle.check_sched.proofs.ResumedRunLaws.{out_until, runs_counted, runs_greater}
use Rattle.check_sched.proofs.laws.resumed_runs.Goals as goal

pub returns-clause-greater : goal.returns-clause-greater
returns-clause-greater c = λ setup saved start front back e object run legal is. runs_greater setup saved start front back e object run legal is

pub returns-clause-counted : goal.returns-clause-counted
returns-clause-counted c = λ s front back e object run legal is. runs_counted s front back e object run legal is

pub returns-clause-out : goal.returns-clause-out
returns-clause-out c =
    λ setup saved start front back e object run other in_range out stays legal is.
    out_until setup saved start front back e object run other in_range out stays legal is
