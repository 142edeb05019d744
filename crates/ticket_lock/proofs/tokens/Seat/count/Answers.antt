use Rattle.std.proofs.Common.{sym}
use Rattle.ticket_lock.proofs.tokens.Seat.count.Goals as goal

pub returns-clause-numbers : goal.returns-clause-numbers
returns-clause-numbers g c = sym c.args.self.now.agreement.count

pub returns-clause-nonempty : goal.returns-clause-nonempty
returns-clause-nonempty g c = c.args.self.now.agreement.nonempty_numbers

pub returns-clause-bounded : goal.returns-clause-bounded
returns-clause-bounded g c = c.args.self.now.agreement.bounded_numbers
