use Rattle.std.proofs.Common.{subst, rules, refl, sym, ap, ◌∙◌, ◌≡◌}
use Rattle.ticket_steps.specs.History.{IsLegal}
use Rattle.ticket_lock.specs.Callers.{IsHandedOut}
use Rattle.ticket_lock.specs.Counts.{AreCountsOf}
use Rattle.ticket_lock.specs.Endings.{EndsSchedule}
use Rattle.ticket_lock.specs.Legal.{IsLegalFrom}
use Rattle.ticket_lock.specs.Tokens.{start_of}
use Rattle.ticket_lock.specs.Views.{view_after_look}
use Rattle.ticket_lock.proofs.BoardLemmas.{AreLaws}
use Rattle.ticket_lock.proofs.Facts.{book_or}
use Rattle.ticket_lock.proofs.Obligations.{looks}
use Rattle.ticket_lock.proofs.SeatLaws.{counts_stay}
use Rattle.ticket_lock.proofs.lock.TicketLock.look.Given.{Over}
use Rattle.ticket_lock.proofs.lock.TicketLock.look.Goals as goal

laws_of : (g : Over) → AreLaws g.K.Kept
laws_of g = record { legal = g.met.K.Kept.legal; replayed = g.met.K.Kept.replayed; unposted = g.met.K.Kept.unposted; posted = g.met.K.Kept.posted }

pub load-granted-requires : goal.load-granted-requires
load-granted-requires g c =
    let s = c.args.turn in (search rules, search rules, looks g.K.Kept _ (laws_of g) _ _ s.ticket _ _ c.grant_word.ensures.place s.waits s.bare)

pub invariant_of-hold : goal.invariant_of-hold
invariant_of-hold g c =
    let s = c.args.turn in
    let k = g.K.Kept in
    let book = c.take_book-book.result in
    let t = (c.load-granted.ensures.2 s.ticket s.waits).0 c.if-granted-ticket.true in
    let same : book ≡ t.0 = ap (book_or t.0) (sym c.take_book-book.ensures.book ∙ ap (λ m. m.1) t.1) in
    let now : c.take_book-book.new.table_seat.me.0 ≡ view_after_look k s.ticket s.table_seat.me.0 book =
    ap (λ m. m.0) c.take_book-book.ensures.taken ∙ (ap (λ m. m.0) t.1 ∙ ap (view_after_look k s.ticket s.table_seat.me.0) (sym same)) in
    let book_out =
    subst (IsHandedOut k (start_of c.args.self.now) s.table_seat.me.0.seat.numbers s.table_seat.me.0.seen s.ticket) (sym same) (t.2 _ c.requires.1).0 in
    record {
      bounded = book_out.bounded;
      out = ap (λ m. m.1) c.take_book-book.ensures.taken;
      legal = subst (λ w. IsLegalFrom k w.start w.seen) (sym now) (subst (λ a. IsLegalFrom k a (k.history book)) (sym c.requires.1)
          (subst (λ o. IsLegal k.step o (k.history book)) book_out.opening (g.met.K.Kept.legal book)));
      holds = ap (λ w. w.seat.phase) now;
      agreement = subst (λ w. AreCountsOf s.counts w.seat) (sym now) (counts_stay s.counts s.table_seat.me.0.seat _ refl refl refl refl s.agreement);
      stale = ap (λ w. w.seat.fresh) now ∙ s.stale;
    }

pub returns-then-granted-ticket-clause-book : goal.returns-then-granted-ticket-clause-book
returns-then-granted-ticket-clause-book g c =
    let s = c.args.turn in
    let k = g.K.Kept in
    let book = c.take_book-book.result in
    let t = (c.load-granted.ensures.2 s.ticket s.waits).0 c.if-granted-ticket.true in
    let same : book ≡ t.0 = ap (book_or t.0) (sym c.take_book-book.ensures.book ∙ ap (λ m. m.1) t.1) in
    subst (IsHandedOut k (start_of c.args.self.now) s.table_seat.me.0.seat.numbers s.table_seat.me.0.seen s.ticket) (sym same) (t.2 _ c.requires.1).0

pub returns-then-granted-ticket-clause-schedule : goal.returns-then-granted-ticket-clause-schedule
returns-then-granted-ticket-clause-schedule g c =
    let s = c.args.turn in
    let t = (c.load-granted.ensures.2 s.ticket s.waits).0 c.if-granted-ticket.true in
    let same : c.take_book-book.result ≡ t.0 = ap (book_or t.0) (sym c.take_book-book.ensures.book ∙ ap (λ m. m.1) t.1) in
    subst (EndsSchedule g.K.Kept (start_of c.args.self.now)) (sym same) (t.2 _ c.requires.1).1

pub take_book-book-requires-clause-full : goal.take_book-book-requires-clause-full
take_book-book-requires-clause-full g c =
    let s = c.args.turn in
    let t = (c.load-granted.ensures.2 s.ticket s.waits).0 c.if-granted-ticket.true in
    (t.0, ap (λ m. m.1) t.1)

-- a turn that isn't served stays as it was
pub invariant_of-result : goal.invariant_of-result
invariant_of-result g c =
    let s = c.args.turn in
    let t = (c.load-granted.ensures.2 s.ticket s.waits).1 c.if-granted-ticket.false in
    record {
      waits = ap (λ m. m.0.seat.phase) t.0 ∙ s.waits;
      bare = ap (λ m. m.1) t.0 ∙ s.bare;
      legal = subst (λ m. IsLegalFrom g.K.Kept m.0.start m.0.seen) (sym t.0) s.legal;
      agreement = subst (λ m. AreCountsOf s.counts m.0.seat) (sym t.0) s.agreement;
      stale = ap (λ m. m.0.seat.fresh) t.0 ∙ s.stale;
    }
