-- The board of a desk: how many words it has, and the places at which calls are posted.
use Rattle.std.proofs.Common.{◌≡◌, ℕ, ◌<◌, [], length, sym, ap, ◌∙◌, arith, Option, Some, None, IfSome, Result, Ok, Err}
use Rattle.std.specs.Prelude.{IfOk, OnErr}
use Rattle.ticket_steps.specs.declared.books.NoMemory.{NoMemory}
use Rattle.check_objects.specs.Configuration.{object_count}
use Rattle.check_sched.specs.declared.call.Call.{Call}
use Rattle.check_sched.specs.declared.call.Reply.{Reply}
use Rattle.check_sched.specs.Board.{slot_of_reply}
use Rattle.check_sched.specs.Step.{step}
use Rattle.check_sched.proofs.BoardLaws.{step_within}
use Rattle.check_book.specs.declared.book.Book.{Book}
use Rattle.check_book.specs.Board.{book_board, book_slot}
use Rattle.check_book.specs.BookState.{BookState}
use Rattle.check_book.specs.Books.{entries_of, opening_of, sched_of, state_of}
use Rattle.check_book.proofs.PublicLaws.{state_words}

-- whatever calls a book has, its board has a word for each object of the setup that it was opened with
pub words_in : (book : Book) → length (book_board (state_of book)) ≡ object_count (opening_of book).sched.setup
words_in book =
    let opened = opening_of book in
    ap (λ (s : BookState). length (book_board s)) book.replayed ∙ state_words opened (entries_of book) book.opened

-- so has the board of the state that it was opened in
pub words_opened : (book : Book) → length (book_board (opening_of book)) ≡ object_count (opening_of book).sched.setup
words_opened book = let opened = opening_of book in state_words opened [] book.opened

-- a call is posted at the number of an object of that setup
pub place_within : (book : Book) (opened : BookState) (call : Call) (place : Option ℕ) → place ≡ book_slot (state_of book) call
    → opening_of book ≡ opened → IfSome place (λ at. at < object_count opened.sched.setup)
place_within book opened call None is opening = tt
place_within book opened call (Some at) is opening =
    let less : at < length (book_board (state_of book)) = step_within (state_of book).sched call at (sym is) in
    omega (arith, less, words_in book, ap (λ (o : BookState). object_count o.sched.setup) opening)

-- a recorded call is posted at the number of such an object, and a refused one isn't posted
pub place_in_range : (book after : Book) (opened : BookState) (call : Call) (place : Option ℕ) (r : Result Reply NoMemory)
    → IfOk r (λ reply. place ≡ slot_of_reply call reply) → OnErr r (place ≡ None)
    → IfOk r (λ reply. (reply ≡ (step (sched_of book) call).1) × (sched_of after ≡ (step (sched_of book) call).0)) → opening_of book ≡ opened → IfSome place (λ at. at < object_count opened.sched.setup)
place_in_range book after opened call place (Ok reply) posted unposted replied opening =
    place_within book opened call place (posted ∙ ap (slot_of_reply call) replied.0) opening
place_in_range book after opened call place (Err why) posted unposted replied opening = rw unposted tt
