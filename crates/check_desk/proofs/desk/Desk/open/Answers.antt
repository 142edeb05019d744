use Rattle.check_desk.proofs.desk.Desk.open.Goals as goal

pub returns-clause-new : goal.returns-clause-new
returns-clause-new c = c.open_with.ensures.new
