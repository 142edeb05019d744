-- The schedules of a desk's lock: the steps of any callers, in any order, and the states to which they lead.
use Rattle.std.specs.Prelude.{◌≡◌, ℕ, List}
use Rattle.ticket_steps.specs.declared.books.Entry.{Entry}
use Rattle.ticket_steps.specs.Books.{book_state}
use Rattle.ticket_steps.specs.History.{replay, IsLegal}
use Rattle.ticket_steps.specs.Schedules.{Schedule, IsSchedule}
use Rattle.check_objects.specs.Configuration.{Configuration}
use Rattle.check_sched.specs.declared.call.Call.{Call}
use Rattle.check_sched.specs.declared.call.Reply.{Reply}
use Rattle.check_sched.specs.State.{State}
use Rattle.check_sched.specs.Step.{step}
use Rattle.check_book.specs.BookState.{BookState, book_at, book_opening}
use Rattle.check_book.specs.Books.{entries_of, refused_of, state_of}
use Rattle.check_book.specs.declared.book.Book.{Book}
use Rattle.check_book.specs.contracts.book.BookKept.TheImpl.{ghosts as kept_book}

-- A schedule of the core, with 1 to 1,024 numbers, over a book that opens empty on this setup, at this start and with this room: any steps of any
-- seats, one after another.
pub record IsScheduleOver (setup : Configuration) (start room : ℕ) (s : Schedule BookState Call Reply) : Type 0 where
  pub schedule : IsSchedule kept_book s
  pub opening : s.opening ≡ book_opening setup start room

-- The same over a book that continues the books before it. It opens in the state after `earlier`, a legal history of the scheduler from this state on.
-- For the first book, `earlier` is empty.
pub record IsScheduleAfter (from : State) (earlier : List (Entry Call Reply)) (room : ℕ) (s : Schedule BookState Call Reply) : Type 0 where
  pub schedule : IsSchedule kept_book s
  pub legal_before : IsLegal step from earlier
  pub opens : s.opening ≡ book_at (replay step from earlier) room

-- The same over a book that opens empty in this state. A book that resumes a saved state opens like that.
pub record IsScheduleFrom (opened : BookState) (s : Schedule BookState Call Reply) : Type 0 where
  pub schedule : IsSchedule kept_book s
  pub opens : s.opening ≡ opened

-- The book that comes out of a desk is that at the end of such a schedule, with a number for each pass.
pub record EndsScheduleFrom (opened : BookState) (passes : ℕ) (book : Book) : Type 0 where
  pub schedule : Schedule BookState Call Reply
  pub is : IsScheduleFrom opened schedule
  pub passes_are : schedule.numbers ≡ passes
  pub book_is : schedule.end.book ≡ book_state (state_of book) (entries_of book) (refused_of book)
