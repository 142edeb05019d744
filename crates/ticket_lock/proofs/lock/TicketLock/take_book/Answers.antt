use Rattle.std.proofs.Common.{◌∷◌, Some, sym, ap, ◌∙◌}
use Rattle.atomic_table.specs.Table.{rest}
use Rattle.ticket_lock.proofs.lock.TicketLock.take_book.Goals as goal

pub exchange-requires : goal.exchange-requires
exchange-requires g c = let t = c.requires.full in (c.requires.lock, (Some t.0, t.1 ∙ ap (λ l. (0, Some t.0) ∷ rest l) (sym t.1)))
