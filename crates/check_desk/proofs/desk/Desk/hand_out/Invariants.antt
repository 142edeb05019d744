use Rattle.ticket_lock.specs.Tokens.{seat_of, IsSeatOf}
use Rattle.check_desk.proofs.PassLemmas.{IsHandingOut}
use Rattle.check_desk.proofs.desk.Desk.hand_out.Given as goal

abbrev pub invariant-loop-number : goal.invariant-loop-number
invariant-loop-number l = IsHandingOut l.self l._number (seat_of l.rest) l.list.items × IsSeatOf l.self.lock l.rest
