use Rattle.std.proofs.Common.{refl}
use Rattle.ticket_lock.proofs.tokens.Hold.posted.Goals as goal

pub returns : goal.returns
returns g c = refl
