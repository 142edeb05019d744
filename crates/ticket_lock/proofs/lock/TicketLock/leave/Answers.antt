use Rattle.std.proofs.Common.{rules, arith, ◌≡◌, ℕ, ◌+◌, ◌<◌, Bool, true, false, List, [], length, refl, sym, ap, ◌∙◌, subst, None}
use Rattle.ticket_steps.specs.declared.books.Entry.{Entry}
use Rattle.ticket_steps.specs.declared.books.Kept.{Ghosts}
use Rattle.ticket_steps.specs.History.{IsLegal}
use Rattle.ticket_steps.specs.Sums.{occurrences}
use Rattle.ticket_lock.specs.declared.views.Start.{Start}
use Rattle.ticket_lock.specs.Legal.{IsLegalFrom}
use Rattle.ticket_lock.specs.Steps.{IsBookAfterCall, IsBookAfterPost}
use Rattle.ticket_lock.specs.Tokens.{start_of, caller_in}
use Rattle.ticket_lock.specs.Views.{view_after_leave}
use Rattle.ticket_lock.proofs.Obligations.{leaves}
use Rattle.ticket_lock.proofs.BoardLemmas.{AreLaws}
use Rattle.ticket_lock.proofs.lock.TicketLock.leave.Given.{Over}
use Rattle.ticket_lock.proofs.lock.TicketLock.leave.Goals.{After-store}
use Rattle.ticket_lock.proofs.lock.TicketLock.leave.Goals as goal

laws_of : (g : Over) → AreLaws g.K.Kept
laws_of g = record { legal = g.met.K.Kept.legal; replayed = g.met.K.Kept.replayed; unposted = g.met.K.Kept.unposted; posted = g.met.K.Kept.posted }

pub store-requires : goal.store-requires
store-requires g c =
    let s = c.args.hold in
    let k = g.K.Kept in
    let e = c.put_book.ensures in
    let v = ap (λ m. m.0) e.put in (
      e.same.0 ∙ c.requires.lock.0,
      search rules,
      leaves k _ (laws_of g) s.posted _ _ s.ticket _ c.put_book.new.table_seat.me c.args.book (start_of c.args.self.now)
          c.grant_word.ensures.place (ap (λ m. m.1) e.put) (ap (λ w. w.seat.phase) v ∙ s.holds) (ap (λ w. w.start) v ∙ c.requires.lock.1)
          (λ no. subst (λ w. IsBookAfterCall k (start_of c.args.self.now) w.seat.own w.seen w.refused None c.args.book) (sym v) (c.requires.recorded no))
          (λ yes. subst (λ w. IsBookAfterPost k (start_of c.args.self.now) w.seen w.refused c.args.book) (sym v) (c.requires.posted yes)),
    )

pub put_book-requires-clause-empty : goal.put_book-requires-clause-empty
put_book-requires-clause-empty g c = c.args.hold.out

-- the book that comes back is the one of the lock's opening
opening_is : {K C R : Type 0} (k : Ghosts K C R) (start : Start K) (own : ℕ) (seen : List (Entry C R)) (refused : ℕ) (posted : Bool) (book : K)
    → (posted ≡ false → IsBookAfterCall k start own seen refused None book) → (posted ≡ true → IsBookAfterPost k start seen refused book)
    → k.opening book ≡ k.opening start.book
opening_is k start own seen refused false book recorded posted = (recorded refl).opening
opening_is k start own seen refused true book recorded posted = (posted refl).opening

-- the seat after the leave, by the hold before it
left_is : (g : Over) (c : After-store g) → c.store.new.seat.me ≡ (view_after_leave g.K.Kept c.args.hold.table_seat.me.0 c.args.book, [])
left_is g c =
    let e = c.put_book.ensures in
    let t = c.store.ensures.2 c.args.book (ap (λ m. m.1) e.put) in
    t.0 ∙ ap (λ m. (view_after_leave g.K.Kept m.0 c.args.book, [])) e.put

pub invariant_of-result : goal.invariant_of-result
invariant_of-result g c =
    let s = c.args.hold in
    let k = g.K.Kept in
    let at = (goal.at.invariant_of-result g c).After-store in
    let e = c.put_book.ensures in
    let t = c.store.ensures.2 c.args.book (ap (λ m. m.1) e.put) in
    let now = ap (λ m. m.0) (left_is g at) in
    record {
      bare = ap (λ m. m.1) (left_is g at);
      legal = subst (λ w. IsLegalFrom k w.start w.seen) (sym now) (subst (λ a. IsLegalFrom k a (k.history c.args.book)) (sym c.requires.lock.1)
          (subst (λ o. IsLegal k.step o (k.history c.args.book)) (opening_is k _ _ _ _ s.posted c.args.book c.requires.recorded c.requires.posted)
          (g.met.K.Kept.legal c.args.book)));
      idle = ap (λ w. w.seat.phase) now;
      agreement = record {
        own = ap (λ w. w.seat.own) now ∙ s.agreement.own;
        count = ap (λ w. length w.seat.numbers) now ∙ s.agreement.count;
        left = ap (λ w. w.seat.left) now ∙ s.agreement.left;
        calls = ap (λ w. w.seat.calls) now ∙ ap (λ n. n + 1) s.agreement.calls;
        nonempty_numbers = s.agreement.nonempty_numbers;
        bounded_numbers = s.agreement.bounded_numbers;
        bounded_calls = omega (arith, t.1, ap (λ m. m.0.seat.calls) e.put, s.agreement.calls);
        among = subst (λ w. 0 < occurrences w.seat.own w.seat.numbers) (sym now) s.agreement.among;
      };
      fresh_is = ap (λ w. w.seat.fresh) now ∙ s.stale;
      range = λ some. absurd (omega (arith, some));
      row = λ some. absurd (omega (arith, some));
    }

pub returns-clause-lock : goal.returns-clause-lock
returns-clause-lock g c =
    let at = (goal.at.returns-clause-lock g c).After-store in (
      c.store.ensures.0 ∙ (c.put_book.ensures.same.0 ∙ c.requires.lock.0),
      ap (λ m. m.0.start) (left_is g at) ∙ c.requires.lock.1,
    )

pub returns-clause-caller_after_call : goal.returns-clause-caller_after_call
returns-clause-caller_after_call g c = ap (λ m. caller_in m.0) (left_is g (goal.at.returns-clause-caller_after_call g c).After-store)
