-- The states of a book's log.
use Rattle.check_book.specs.declared.book.Log.{Log}
use Rattle.check_book.specs.BookState.{BookState}

-- the state in which it began
abbrev pub log_opening : Log → BookState
log_opening log = record { sched = log.opened.at; room = log.room }

-- its present state
abbrev pub log_state : Log → BookState
log_state log = record { sched = log.sched; room = log.room }
