use Rattle.std.proofs.Common.{◌≡◌, Option, Some, arith, sym, ap, ◌∙◌, subst}
use Rattle.std.specs.Option.{unwrap_or}
use Rattle.std.proofs.lemmas.Bool.{false≢true}
use mathlib.Core.Option.{some-injective}
use Rattle.ticket_lock.proofs.BoardLemmas.{AreLaws}
use Rattle.ticket_lock.proofs.Obligations.{IsLastBook, closes}
use Rattle.ticket_lock.proofs.lock.TicketLock.close.Given.{Over}
use Rattle.ticket_lock.proofs.lock.TicketLock.close.Goals.{After-take-slot}
use Rattle.ticket_lock.proofs.lock.TicketLock.close.Goals as goal

laws_of : (g : Over) → AreLaws g.K.Kept
laws_of g = record { legal = g.met.K.Kept.legal; replayed = g.met.K.Kept.replayed; unposted = g.met.K.Kept.unposted; posted = g.met.K.Kept.posted }

-- the slot had the last book
last_book : (g : Over) (c : After-take-slot g) → let key = c.args.self.table.shared.key in (book : g.row.K.Denot) × (c.take-slot.result ≡ Some book)
    × IsLastBook g.K.Kept record { book = key.book.value; numbers = key.numbers; draws = key.draws } c.args.seat.table_seat.me.0 book
last_book g c =
    let f = c.close_with-closed.ensures.values.2 in
    let s = c.args.seat in
    let t = closes g.K.Kept _ (laws_of g) f.0 _ _ f.1.0 f.1.1 s.idle (omega (arith, s.agreement.count, c.args.self.agreement.0, c.if-seat-self.false)) in
    (t.0, some-injective _ _ (sym c.take-slot.ensures.value ∙ f.4 0 (Some t.0) t.1), t.2)

-- so a book that came out of it is the last one
is_last : (g : Over) (c : After-take-slot g) (book : g.row.K.Denot) → c.take-slot.result ≡ Some book → let key = c.args.self.table.shared.key in
    IsLastBook g.K.Kept record { book = key.book.value; numbers = key.numbers; draws = key.draws } c.args.seat.table_seat.me.0 book
is_last g c book out =
    let key = c.args.self.table.shared.key in
    let t = last_book g c in
    let same : t.0 ≡ book = ap (λ (o : Option g.row.K.Denot). unwrap_or o book) (sym t.1 ∙ out) in
    subst (IsLastBook g.K.Kept record { book = key.book.value; numbers = key.numbers; draws = key.draws } c.args.seat.table_seat.me.0) same t.2

pub unreachable-requires : goal.unreachable-requires
unreachable-requires g c = let t = last_book g (goal.at.unreachable-requires g c).After-take-slot in c.in_default.not-Some t.0 t.1

pub returns-clause-opening : goal.returns-clause-opening
returns-clause-opening g c = (is_last g (goal.at.returns-clause-opening g c).After-take-slot c.in-Some.book c.in-Some.is).opening

pub returns-clause-schedule : goal.returns-clause-schedule
returns-clause-schedule g c =
    let ends = (is_last g (goal.at.returns-clause-schedule g c).After-take-slot c.in-Some.book c.in-Some.is).ends in
    record {
      schedule = ends.schedule;
      is = ends.is;
      opening = ends.opening;
      numbers = ends.numbers ∙ c.args.self.agreement.0;
      draws = ends.draws ∙ c.args.self.agreement.1;
      book_is = ends.book_is;
    }

pub returns-clause-numbers : goal.returns-clause-numbers
returns-clause-numbers g c =
    let last = is_last g (goal.at.returns-clause-numbers g c).After-take-slot c.in-Some.book c.in-Some.is in
    λ n h. last.numbers n (omega (arith, h, c.args.self.agreement.0))

pub returns-clause-history : goal.returns-clause-history
returns-clause-history g c = (is_last g (goal.at.returns-clause-history g c).After-take-slot c.in-Some.book c.in-Some.is).history

pub returns-clause-calls : goal.returns-clause-calls
returns-clause-calls g c = let last = is_last g (goal.at.returns-clause-calls g c).After-take-slot c.in-Some.book c.in-Some.is in last.calls

pub returns-clause-missing : goal.returns-clause-missing
returns-clause-missing g c =
    (λ refused. absurd (false≢true refused), λ missing. absurd (omega (arith, missing, c.args.seat.agreement.count, c.if-seat-self.false)))
