use Rattle.std.proofs.Common.{sym}
use Rattle.ticket_lock.proofs.tokens.Seat.fresh.Goals as goal

pub returns : goal.returns
returns g c = sym c.args.self.now.fresh_is
