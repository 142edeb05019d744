-- The parts of the lock that clauses see, and those of its seats, turns and holds.
use Rattle.std.specs.Prelude.{◌≡◌, ℕ, Some, Bool}
use Rattle.ticket_steps.specs.declared.books.Kept.{Ghosts}
use Rattle.ticket_lock.specs.declared.lock.Look.{Look}
use Rattle.ticket_lock.specs.declared.lock.Look.TheVariants.{Held, Waiting}
use Rattle.ticket_lock.specs.declared.lock.TicketLock.{TicketLock}
use Rattle.ticket_lock.specs.declared.tokens.Hold.{Hold}
use Rattle.ticket_lock.specs.declared.tokens.Seat.{Seat}
use Rattle.ticket_lock.specs.declared.tokens.Turn.{Turn}
use Rattle.ticket_lock.specs.declared.views.Start.{Start}
use Rattle.ticket_lock.specs.declared.views.View.{View}
use Rattle.ticket_lock.specs.Boards.{board_length}
use Rattle.ticket_lock.specs.Callers.{Caller, caller}

-- the caller in a view
abbrev pub caller_in : {K C R : Type 0} → View K C R → Caller C R
caller_in v = caller v.seat.own v.seat.numbers v.seat.left v.seat.calls v.seat.fresh v.seen

module _ {K C R : Type 0} {G : Ghosts K C R} where
  -- how this lock was opened
  abbrev pub start_of : TicketLock K C R G → Start K
  start_of lock = record { book = lock.table.shared.key.book.value; numbers = lock.numbers; draws = lock.draws }

  -- the number of words on its board: the number of words of the state in which its book was opened
  abbrev pub words_of : TicketLock K C R G → ℕ
  words_of lock = board_length G (start_of lock).book

  -- the caller of a seat; the same for a turn and a hold
  abbrev pub seat_of : Seat K C R G → Caller C R
  seat_of seat = caller_in seat.table_seat.me.0

  abbrev pub turn_of : Turn K C R G → Caller C R
  turn_of turn = caller_in turn.table_seat.me.0

  abbrev pub hold_of : Hold K C R G → Caller C R
  hold_of hold = caller_in hold.table_seat.me.0

  -- the ticket of a turn; the same for a hold
  abbrev pub ticket_of : Turn K C R G → ℕ
  ticket_of turn = turn.ticket

  abbrev pub held_ticket_of : Hold K C R G → ℕ
  held_ticket_of hold = hold.ticket

  -- whether the holder has posted its call
  abbrev pub has_posted : Hold K C R G → Bool
  has_posted hold = hold.posted

  -- the number of calls that were refused before the holder took the book out, or before it posted
  abbrev pub refused_before : Hold K C R G → ℕ
  refused_before hold = hold.table_seat.me.0.refused

  -- the seat is of this lock; the same for a turn and a hold
  abbrev pub IsSeatOf : TicketLock K C R G → Seat K C R G → Type 0
  IsSeatOf lock seat = (seat.table_seat.table_id ≡ lock.table.shared.table_id) × (seat.table_seat.me.0.start ≡ Some (start_of lock))

  abbrev pub IsTurnOf : TicketLock K C R G → Turn K C R G → Type 0
  IsTurnOf lock turn = (turn.table_seat.table_id ≡ lock.table.shared.table_id) × (turn.table_seat.me.0.start ≡ Some (start_of lock))

  abbrev pub IsHoldOf : TicketLock K C R G → Hold K C R G → Type 0
  IsHoldOf lock hold = (hold.table_seat.table_id ≡ lock.table.shared.table_id) × (hold.table_seat.me.0.start ≡ Some (start_of lock))

  -- the two outcomes of a look
  abbrev pub MatchLook : Look K C R G → (Hold K C R G → K → Type 0) → (Turn K C R G → Type 0) → Type 0
  MatchLook (Held hold book) P Q = P hold book
  MatchLook (Waiting turn) P Q = Q turn
