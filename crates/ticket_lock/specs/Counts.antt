-- The numbers of a token's seat at run time.
use Rattle.std.specs.Prelude.{◌≡◌, ◌<◌, ◌≤◌, length}
use Rattle.ticket_steps.specs.declared.seats.CoreSeat.{CoreSeat}
use Rattle.ticket_steps.specs.Sums.{occurrences}
use Rattle.ticket_lock.specs.declared.tokens.SeatCounts.{SeatCounts}

-- the counts are those of the seat, and in range; the seat answers for its own number
pub record AreCountsOf (f : SeatCounts) (s : CoreSeat) : Type 0 where
  pub own : s.own ≡ f.number
  pub count : length s.numbers ≡ f.count
  pub left : s.left ≡ f.left
  pub calls : s.calls ≡ f.calls
  pub nonempty_numbers : 0 < f.count
  pub bounded_numbers : f.count ≤ 1024
  pub bounded_calls : f.calls ≤ 4398046510080
  pub among : 0 < occurrences s.own s.numbers
