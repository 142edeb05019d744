use Rattle.check_sched.proofs.SavedOrderLaws.{resumed_in_any_order}
use Rattle.check_sched.proofs.laws.resumed_in_any_order.Goals as goal

pub returns : goal.returns
returns c = λ setup saved others start is moved. resumed_in_any_order setup saved others start is moved
