-- The states of the core: the next ticket, the number served, the seats and the book.
use Rattle.std.specs.Prelude.{◌≡◌, ℕ, ◌+◌, List, [], ◌∷◌}
use Rattle.ticket_steps.specs.declared.seats.CoreSeat.{CoreSeat}
use Rattle.ticket_steps.specs.Books.{BookState, calls_handled, empty_book}
use Rattle.ticket_steps.specs.Seats.{fresh_seat, holders, posters}
use Rattle.ticket_steps.specs.Sums.{numbers_from}

pub record CoreState (S C R : Type 0) : Type 0 where
  pub next : ℕ
  -- the number served: the ticket of the seat whose turn has come
  pub served : ℕ
  -- in the order in which they were made
  pub seats : List CoreSeat
  -- the book at home, or the book as the holder took it out, with what the holder has posted since
  pub book : BookState S C R

module _ {S C R : Type 0} where
  abbrev pub core_state : ℕ → ℕ → List CoreSeat → BookState S C R → CoreState S C R
  core_state next served seats book = record { next = next; served = served; seats = seats; book = book }

  -- the opening state: one fresh seat, with its own number 0, for all numbers, and an empty book at home
  abbrev pub opening_core : ℕ → ℕ → S → CoreState S C R
  opening_core numbers draws state = core_state 0 0 (fresh_seat draws 0 (numbers_from 0 numbers) 0 ∷ []) (empty_book state)

  -- the book is out exactly while a seat holds
  abbrev pub IsHome : CoreState S C R → Type 0
  IsHome c = holders c.seats ≡ 0

  -- the counts: the number of calls that the book has handled is the number served, plus one while a seat has posted and not left
  abbrev pub IsCounted : CoreState S C R → Type 0
  IsCounted c = calls_handled c.book ≡ c.served + posters c.seats
