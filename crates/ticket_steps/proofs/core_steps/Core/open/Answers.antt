use Rattle.ticket_steps.proofs.core_steps.Core.open.Goals as goal

-- what is opened with the most draws, said by name: a body that opens with fewer is refused at once
pub returns-clause-opening_core : goal.returns-clause-opening_core
returns-clause-opening_core g c = c.open_with.ensures.opening_core

pub returns-clause-same_opening : goal.returns-clause-same_opening
returns-clause-same_opening g c = c.open_with.ensures.same_opening
