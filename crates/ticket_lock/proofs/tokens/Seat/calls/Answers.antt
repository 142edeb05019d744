use Rattle.std.proofs.Common.{arith, sym}
use Rattle.ticket_lock.proofs.tokens.Seat.calls.Goals as goal

pub returns-clause-calls : goal.returns-clause-calls
returns-clause-calls g c = sym c.args.self.now.agreement.calls

pub returns-clause-bounded : goal.returns-clause-bounded
returns-clause-bounded g c = omega (arith, c.args.self.now.agreement.bounded_calls)
