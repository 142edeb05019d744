-- What every schedule over the book of a scheduler leaves.
use Rattle.std.proofs.Common.{◌≡◌, ℕ, ◌+◌, List, [], ◌∷◌, ◌++◌, length, refl, ap, ◌∙◌, arith, subst}
use mathlib.Core.Option.{some}
use lib.ListN.{get_elem?}
use Rattle.ticket_steps.specs.declared.books.Entry.{Entry}
use Rattle.ticket_steps.specs.declared.seats.CoreSeat.{CoreSeat}
use Rattle.ticket_steps.specs.Books.{calls_handled, IsLawfulBook}
use Rattle.ticket_steps.specs.History.{replay, IsLegal}
use Rattle.ticket_steps.specs.Schedules.{Schedule, IsSchedule}
use Rattle.ticket_steps.specs.Seats.{poster_count_of}
use Rattle.ticket_steps.proofs.ScheduleLemmas.{schedule_book, schedule_lawful}
use Rattle.ticket_steps.proofs.SeatLemmas.{alone, posts, unnumbered_calls, unnumbered_posts}
use Rattle.check_objects.specs.Configuration.{Configuration}
use Rattle.check_sched.specs.declared.call.Call.{Call}
use Rattle.check_sched.specs.declared.call.Reply.{Reply}
use Rattle.check_sched.specs.State.{State, opening}
use Rattle.check_sched.specs.Step.{step}
use Rattle.check_book.specs.BookState.{BookState, book_at, book_opening, book_step}
use Rattle.check_book.specs.contracts.book.BookKept.TheImpl.{ghosts as kept_book}
use Rattle.check_book.proofs.PublicLaws.{book_is_legal, joined_book, joined_book_state}
use Rattle.check_desk.specs.Schedules.{IsScheduleAfter, IsScheduleFrom, IsScheduleOver}

-- the scheduler of a book goes only through its calls
sched_replayed : (s : State) (room : ℕ) (es : List (Entry Call Reply)) → (replay book_step (record { sched = s; room = room }) es).sched ≡ replay step s es
sched_replayed s room [] = refl
sched_replayed s room (e ∷ es) = sched_replayed (step s e.call).0 room es

module _ (setup : Configuration) (start room : ℕ) (s : Schedule BookState Call Reply) (is : IsScheduleOver setup start room s) where
  lawful : IsLawfulBook book_step (book_opening setup start room) s.end.book
  lawful = subst (λ (o : BookState). IsLawfulBook book_step o s.end.book) is.opening (schedule_book kept_book s is.schedule)

  pub legal_here : IsLegal step (opening setup start) s.end.book.entries
  legal_here = book_is_legal (opening setup start) room s.end.book.entries lawful.legal

  pub legal_parts : (front back : List (Entry Call Reply)) (e : Entry Call Reply) → s.end.book.entries ≡ front ++ e ∷ back
      → IsLegal step (opening setup start) (front ++ e ∷ back)
  legal_parts front back e parts = subst (IsLegal step (opening setup start)) parts legal_here

  pub sched_here : s.end.book.state.sched ≡ replay step (opening setup start) s.end.book.entries
  sched_here = ap (λ (b : BookState). b.sched) lawful.replayed ∙ sched_replayed (opening setup start) room s.end.book.entries

module _ (from : State) (earlier : List (Entry Call Reply)) (room : ℕ) (s : Schedule BookState Call Reply) (is : IsScheduleAfter from earlier room s) where
  lawful_later : IsLawfulBook book_step (book_at (replay step from earlier) room) s.end.book
  lawful_later = subst (λ (o : BookState). IsLawfulBook book_step o s.end.book) is.opens (schedule_book kept_book s is.schedule)

  pub legal_joined : IsLegal step from (earlier ++ s.end.book.entries)
  legal_joined = joined_book from room earlier s.end.book.entries is.legal_before lawful_later.legal

  pub joined_parts : (front back : List (Entry Call Reply)) (e : Entry Call Reply) → earlier ++ s.end.book.entries ≡ front ++ e ∷ back
      → IsLegal step from (front ++ e ∷ back)
  joined_parts front back e parts = subst (IsLegal step from) parts legal_joined

  pub sched_joined : s.end.book.state.sched ≡ replay step from (earlier ++ s.end.book.entries)
  sched_joined = ap (λ (b : BookState). b.sched) lawful_later.replayed ∙ joined_book_state from room earlier s.end.book.entries

module _ (opened : BookState) (s : Schedule BookState Call Reply) (is : IsScheduleFrom opened s) where
  lawful_from : IsLawfulBook book_step opened s.end.book
  lawful_from = subst (λ (o : BookState). IsLawfulBook book_step o s.end.book) is.opens (schedule_book kept_book s is.schedule)

  pub legal_from : IsLegal step opened.sched s.end.book.entries
  legal_from = book_is_legal opened.sched opened.room s.end.book.entries lawful_from.legal

  pub from_parts : (front back : List (Entry Call Reply)) (e : Entry Call Reply) → s.end.book.entries ≡ front ++ e ∷ back
      → IsLegal step opened.sched (front ++ e ∷ back)
  from_parts front back e parts = subst (IsLegal step opened.sched) parts legal_from

  pub sched_from : s.end.book.state.sched ≡ replay step opened.sched s.end.book.entries
  sched_from = ap (λ (b : BookState). b.sched) lawful_from.replayed ∙ sched_replayed opened.sched opened.room s.end.book.entries

-- Where one seat stands for all numbers, the calls that it counts are all, and one more while it has posted a call.
pub taken_by_one : (s : Schedule BookState Call Reply) → IsSchedule kept_book s → (i : ℕ) (p : CoreSeat) → get_elem? s.end.seats i ≡ some p
    → length p.numbers ≡ s.numbers → calls_handled s.end.book ≡ p.calls + poster_count_of p.phase
taken_by_one s is i p at stands_for_all =
    let l = schedule_lawful kept_book s is in
    omega (
      arith,
      l.counted,
      l.calls,
      alone s.numbers s.draws s.end l i p at (omega (arith, stands_for_all))
          (λ (q : CoreSeat). q.calls) (λ k u e none. unnumbered_calls s.draws s.end.served u (l.each k u e) none),
      alone s.numbers s.draws s.end l i p at (omega (arith, stands_for_all))
          posts (λ k u e none. unnumbered_posts s.draws s.end.served u (l.each k u e) none),
    )
