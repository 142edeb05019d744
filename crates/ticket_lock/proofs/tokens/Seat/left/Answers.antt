use Rattle.std.proofs.Common.{sym}
use Rattle.ticket_lock.proofs.tokens.Seat.left.Goals as goal

pub returns : goal.returns
returns g c = sym c.args.self.now.agreement.left
