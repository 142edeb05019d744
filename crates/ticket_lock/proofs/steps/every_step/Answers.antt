use Rattle.std.proofs.Common.{refl}
use Rattle.ticket_lock.proofs.BoardLemmas.{AreLaws}
use Rattle.ticket_lock.proofs.Events.{event_of, book_home}
use Rattle.ticket_lock.proofs.Facts.{has_fact}
use Rattle.ticket_lock.proofs.Obligations.{opens_with}
use Rattle.ticket_lock.proofs.OnlyTables.{leaves_only}
use Rattle.ticket_lock.proofs.steps.every_step.Given.{Over}
use Rattle.ticket_lock.proofs.steps.every_step.Goals as goal

laws_of : (g : Over) → AreLaws g.K.Kept
laws_of g = record { legal = g.met.K.Kept.legal; replayed = g.met.K.Kept.replayed; unposted = g.met.K.Kept.unposted; posted = g.met.K.Kept.posted }

pub returns-clause-opening : goal.returns-clause-opening
returns-clause-opening g c = λ start entries refused nonempty bounded draws. opens_with g.K.Kept start start.book refl entries refused nonempty bounded draws

pub returns-clause-home : goal.returns-clause-home
returns-clause-home g c = λ m is waits. let t = book_home g.K.Kept m is waits in (t.0, t.1)

pub returns-clause-event : goal.returns-clause-event
returns-clause-event g c = λ m kind is ready. event_of g.K.Kept m is (laws_of g) kind ready

pub returns-clause-fact : goal.returns-clause-fact
returns-clause-fact g c = λ m kind step is learns. has_fact g.K.Kept m is (laws_of g) kind step learns

pub returns-clause-only : goal.returns-clause-only
returns-clause-only g c = λ m kind step is learns decides. leaves_only g.K.Kept m is (laws_of g) kind step learns decides
