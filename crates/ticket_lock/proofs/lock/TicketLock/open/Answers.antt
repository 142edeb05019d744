use Rattle.ticket_lock.proofs.lock.TicketLock.open.Goals as goal

-- what is opened with the most draws, said by name: a body that opens with fewer is refused at once
pub returns-clause-start : goal.returns-clause-start
returns-clause-start g c = c.open_with.ensures.start

pub returns-clause-lock : goal.returns-clause-lock
returns-clause-lock g c = c.open_with.ensures.lock

pub returns-clause-seat : goal.returns-clause-seat
returns-clause-seat g c = c.open_with.ensures.seat
