-- The knowledge of a seat of the table: its place in the core, the history that it has seen, and how the lock was opened.
use Rattle.std.specs.Prelude.{◌≡◌, ℕ, ◌<◌, List, [], length, Option, Some, None, cond, nat_lt}
use mathlib.Core.List.{IsPrefix}
use Rattle.ticket_steps.specs.declared.books.Entry.{Entry}
use Rattle.ticket_steps.specs.declared.books.Kept.{Ghosts}
use Rattle.ticket_steps.specs.declared.seats.CoreSeat.{CoreSeat}
use Rattle.ticket_steps.specs.History.{of}
use Rattle.ticket_steps.specs.Seats.{fresh_seat, gone_seat, seat_after_split, other_seat, waiting_seat, holding_seat, posted_seat, seat_after_leave}
use Rattle.ticket_steps.specs.Seats.{gathered_seat}
use Rattle.ticket_steps.specs.Sums.{occurrences, numbers_from}
use Rattle.ticket_lock.specs.declared.views.Start.{Start}
use Rattle.ticket_lock.specs.declared.views.Part.{Part}
use Rattle.ticket_lock.specs.declared.views.View.{View}

-- the number of draws that each number brought
abbrev pub draws_in : {K : Type 0} → Option (Start K) → ℕ
draws_in None = 0
draws_in (Some start) = start.draws

module _ {C R : Type 0} where
  abbrev pub part : List ℕ → List (Entry C R) → Part C R
  part numbers seen = record { numbers = numbers; seen = seen }

  abbrev pub longer : List (Entry C R) → List (Entry C R) → List (Entry C R)
  longer xs ys = cond (nat_lt (length xs) (length ys)) ys xs

  -- a history that was seen is a first part of a later one, which has nothing new of these numbers
  abbrev pub Follows : List ℕ → List (Entry C R) → List (Entry C R) → Type 0
  Follows numbers seen later = IsPrefix seen later × ((number : ℕ) → 0 < occurrences number numbers → of number later ≡ of number seen)

module _ {K C R : Type 0} where
  abbrev pub view : Option (Start K) → CoreSeat → List (Entry C R) → ℕ → View K C R
  view start seat seen refused = record { start = start; seat = seat; seen = seen; refused = refused; one = part [] []; two = part [] [] }

  abbrev pub seat_in : View K C R → CoreSeat
  seat_in v = v.seat

  -- the view of a seat that was gathered into another
  abbrev pub spent_view : View K C R
  spent_view = view None gone_seat [] 0

  -- the view of the first seat
  abbrev pub first_view : Start K → View K C R
  first_view start = view (Some start) (fresh_seat start.draws 0 (numbers_from 0 start.numbers) 0) [] 0

  -- a fresh seat's view without its last numbers, and the view of the seat that gets these numbers
  abbrev pub view_after_split : ℕ → View K C R → View K C R
  view_after_split count v = view v.start (seat_after_split (draws_in v.start) count v.seat) v.seen 0

  abbrev pub split_view : ℕ → View K C R → View K C R
  split_view count v = view v.start (other_seat (draws_in v.start) count v.seat) v.seen 0

  abbrev pub view_after_draw : ℕ → View K C R → View K C R
  view_after_draw ticket v = view v.start (waiting_seat ticket v.seat) v.seen 0

  -- the view of a seat made from two seats, until the seat has looked at the table; it remembers the two
  abbrev pub gathered_view : View K C R → View K C R → View K C R
  gathered_view v w = record {
    start = v.start;
    seat = gathered_seat v.seat w.seat;
    seen = longer v.seen w.seen;
    refused = 0;
    one = part v.seat.numbers v.seen;
    two = part w.seat.numbers w.seen;
  }

  -- once it has looked
  abbrev pub view_after_second_load : View K C R → View K C R
  view_after_second_load v = view v.start v.seat v.seen 0

  -- the view of a seat that has glanced at the board, and so has seen this history
  abbrev pub view_after_glance : List (Entry C R) → View K C R → View K C R
  view_after_glance entries v = view v.start v.seat entries 0

  -- the view of a holder that has posted its call, after which the book has these entries and refusals
  abbrev pub view_after_post : ℕ → List (Entry C R) → ℕ → View K C R → View K C R
  view_after_post ticket entries refused v = view v.start (posted_seat ticket v.seat) entries refused

  module _ (k : Ghosts K C R) where
    -- the view of a holder that has taken this book
    abbrev pub view_after_look : ℕ → View K C R → K → View K C R
    view_after_look ticket v book = view v.start (holding_seat ticket v.seat) (k.history book) (k.refusals book)

    -- the view of a holder that has put this book back and left
    abbrev pub view_after_leave : View K C R → K → View K C R
    view_after_leave v book = view v.start (seat_after_leave v.seat) (k.history book) 0
