use Rattle.std.proofs.Common.{refl}
use Rattle.check_desk.proofs.desk.Desk.ask.Goals as goal

pub returns-in-Err-clause-answer : goal.returns-in-Err-clause-answer
returns-in-Err-clause-answer g c = (c.in-Err.ensures.spent.0 refl, c.in-Err.ensures.err)
