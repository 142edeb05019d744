-- Facts of every seat, at any time, which its token has.
use Rattle.std.proofs.Common.{◌≡◌, ◌<◌, ◌≤◌, ◌^◌, length, arith, ap, ◌∙◌, subst}
use Rattle.ticket_steps.specs.declared.books.Kept.{Ghosts}
use Rattle.ticket_steps.specs.declared.seats.CoreSeat.{CoreSeat}
use Rattle.ticket_steps.specs.History.{IsLegal}
use Rattle.ticket_steps.specs.Sums.{occurrences}
use Rattle.ticket_lock.specs.declared.tokens.SeatCounts.{SeatCounts}
use Rattle.ticket_lock.specs.declared.lock.TicketLock.{TicketLock}
use Rattle.ticket_lock.specs.declared.tokens.Seat.{Seat}
use Rattle.ticket_lock.specs.Counts.{AreCountsOf}
use Rattle.ticket_lock.specs.Legal.{IsLegalFrom}
use Rattle.ticket_lock.specs.Tokens.{seat_of, start_of, IsSeatOf}

-- the counts of a seat stay its counts in another phase
pub counts_stay : (f : SeatCounts) (s t : CoreSeat) → t.own ≡ s.own → t.numbers ≡ s.numbers → t.left ≡ s.left → t.calls ≡ s.calls
    → AreCountsOf f s → AreCountsOf f t
counts_stay f s t own numbers left calls agreement = record {
  own = own ∙ agreement.own;
  count = ap length numbers ∙ agreement.count;
  left = left ∙ agreement.left;
  calls = calls ∙ agreement.calls;
  nonempty_numbers = agreement.nonempty_numbers;
  bounded_numbers = agreement.bounded_numbers;
  bounded_calls = agreement.bounded_calls;
  among = rw (own, numbers) agreement.among;
}

module _ {K C R : Type 0} {G : Ghosts K C R} where
  -- it answers for its own number, and so for at least one, and for at most 1,024
  pub own_number : (seat : Seat K C R G) → 0 < occurrences (seat_of seat).own (seat_of seat).numbers
  own_number seat = seat.agreement.among

  pub nonempty_numbers : (seat : Seat K C R G) → 0 < length (seat_of seat).numbers
  nonempty_numbers seat = omega (arith, seat.agreement.count, seat.agreement.nonempty_numbers)

  pub bounded_numbers : (seat : Seat K C R G) → length (seat_of seat).numbers ≤ 1024
  bounded_numbers seat = omega (arith, seat.agreement.count, seat.agreement.bounded_numbers)

  -- it has ended fewer than 2^42 calls
  pub bounded_calls : (seat : Seat K C R G) → (seat_of seat).calls < 2 ^ 42
  bounded_calls seat = omega (arith, seat.agreement.calls, seat.agreement.bounded_calls)

  -- what it has seen is a legal history from the book with which its lock was opened
  pub legal_history : (lock : TicketLock K C R G) (seat : Seat K C R G) → IsSeatOf lock seat
      → IsLegal G.step (G.opening (start_of lock).book) (seat_of seat).seen
  legal_history lock seat is = subst (λ start. IsLegalFrom G start (seat_of seat).seen) is.1 seat.legal
