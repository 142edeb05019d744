use Rattle.ticket_lock.proofs.SeatLaws.{bounded_calls, bounded_numbers, legal_history, own_number, nonempty_numbers}
use Rattle.ticket_lock.proofs.laws.every_seat.Goals as goal

pub returns : goal.returns
returns g c = record {
  own = λ seat. own_number seat;
  nonempty = λ seat. nonempty_numbers seat;
  bounded = λ seat. bounded_numbers seat;
  bounded_calls = λ seat. bounded_calls seat;
  legal = λ lock seat is. legal_history lock seat is;
}
