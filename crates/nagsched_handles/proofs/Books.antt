-- What a book's setup is.
use Rattle.std.proofs.Common.{◌≡◌, ap, ◌∙◌}
use Rattle.check_book.specs.declared.book.Book.{Book}
use Rattle.check_book.specs.BookState.{BookState}
use Rattle.check_book.specs.Books.{entries_of, opening_of, sched_of}
use Rattle.check_book.proofs.GenerationLaws.{joined_setup}

-- no call changes it: a book's scheduler works on the setup that the book was opened with
pub book_setup : (book : Book) → (sched_of book).setup ≡ (opening_of book).sched.setup
book_setup book = ap (λ (s : BookState). s.sched.setup) book.replayed ∙ joined_setup (opening_of book) (entries_of book)
