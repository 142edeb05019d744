-- The board of a book: the words that callers read without the lock.
use Rattle.std.specs.Prelude.{ℕ, List, Option}
use Rattle.check_sched.specs.declared.call.Call.{Call}
use Rattle.check_sched.specs.Board.{board_of, slot_of_reply}
use Rattle.check_book.specs.BookState.{BookState, book_step}

abbrev pub book_board : BookState → List ℕ
book_board s = board_of s.sched

abbrev pub book_slot : BookState → Call → Option ℕ
book_slot s c = slot_of_reply c (book_step s c).1
