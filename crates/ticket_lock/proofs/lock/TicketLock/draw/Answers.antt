use Rattle.std.proofs.Common.{rules, arith, refl, ◌∙◌}
use Rattle.std.proofs.lemmas.Bool.{false≢true}
use Rattle.ticket_lock.proofs.Obligations.{draws}
use Rattle.ticket_lock.proofs.lock.TicketLock.draw.Goals as goal

pub fetch_add-ticket-requires : goal.fetch_add-ticket-requires
fetch_add-ticket-requires g c = let s = c.args.seat in (search rules, search rules, draws g.K.Kept _ _ _ _ s.idle (omega (arith, s.agreement.left)))

pub returns-clause-spent : goal.returns-clause-spent
returns-clause-spent g c =
    (λ refused. absurd (false≢true refused), λ none. absurd (omega (arith, none, c.args.seat.agreement.left)))

pub returns-then-seat-eq0-clause-spent : goal.returns-then-seat-eq0-clause-spent
returns-then-seat-eq0-clause-spent g c = (λ _. c.args.seat.agreement.left ∙ c.if-seat-eq0.true, λ _. refl)
