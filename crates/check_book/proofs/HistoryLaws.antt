-- The history of a book is one of its scheduler.
use Rattle.std.proofs.Common.{◌≡◌, ℕ, List, [], ◌∷◌, refl}
use Rattle.ticket_steps.specs.declared.books.Entry.{Entry}
use Rattle.ticket_steps.specs.History.{replay, IsLegal}
use Rattle.check_sched.specs.declared.call.Call.{Call}
use Rattle.check_sched.specs.declared.call.Reply.{Reply}
use Rattle.check_sched.specs.State.{State}
use Rattle.check_sched.specs.Step.{step}
use Rattle.check_book.specs.BookState.{BookState, book_step}

-- the calls of a book go to its scheduler
pub book_sched : (s : BookState) (history : List (Entry Call Reply)) → (replay book_step s history).sched ≡ replay step s.sched history
book_sched s [] = refl
book_sched s (e ∷ history) = book_sched (book_step s e.call).0 history

-- the history of a book is one of its scheduler
pub book_is_legal : (s : State) (room : ℕ) (h : List (Entry Call Reply)) → IsLegal book_step (record { sched = s; room = room }) h → IsLegal step s h
book_is_legal s room [] legal = tt
book_is_legal s room (e ∷ h) legal = (legal.0, book_is_legal (step s e.call).0 room h legal.1)
