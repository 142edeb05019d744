use Rattle.check_sched.proofs.ResumedRunLaws.{soft_stays}
use Rattle.check_sched.proofs.laws.resumed_problems_stay_soft.Goals as goal

pub returns : goal.returns
returns c = λ setup saved start object o in_range kept soft other. soft_stays setup saved start object o in_range kept soft other
