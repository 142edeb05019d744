use Rattle.ticket_lock.proofs.lock.TicketLock.post.Given as goal

abbrev pub ghosts-post_by : goal.ghosts-post_by
ghosts-post_by g a = record { entries = g.K.Kept.history a.book.now; refused = g.K.Kept.refusals a.book.now }
