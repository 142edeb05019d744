-- The parts of a book that clauses see.
use Rattle.std.specs.Prelude.{ℕ, List, vec_capacity}
use Rattle.ticket_steps.specs.declared.books.Entry.{Entry}
use Rattle.check_sched.specs.declared.call.Call.{Call}
use Rattle.check_sched.specs.declared.call.Reply.{Reply}
use Rattle.check_sched.specs.State.{State}
use Rattle.check_book.specs.declared.book.Book.{Book}
use Rattle.check_book.specs.BookState.{BookState}
use Rattle.check_book.specs.Logs.{log_opening, log_state}

-- its history, oldest entry first
abbrev pub entries_of : Book → List (Entry Call Reply)
entries_of book = book.log.value.entries.items

-- the number of calls that were refused when out of memory
abbrev pub refused_of : Book → ℕ
refused_of book = book.log.value.refused

-- its scheduler
abbrev pub sched_of : Book → State
sched_of book = book.log.value.sched

-- the number of entries for which there was room at first
abbrev pub room_of : Book → ℕ
room_of book = book.log.value.room

-- the number of entries for which there is room now
abbrev pub capacity_of : Book → ℕ
capacity_of book = vec_capacity book.log.value.entries

-- the state in which it was opened
abbrev pub opening_of : Book → BookState
opening_of book = log_opening book.log.value

-- its present state
abbrev pub state_of : Book → BookState
state_of book = log_state book.log.value
