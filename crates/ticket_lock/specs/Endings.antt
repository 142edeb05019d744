-- The schedule that led to a book that comes out of a lock.
use Rattle.std.specs.Prelude.{◌≡◌}
use Rattle.ticket_steps.specs.declared.books.Kept.{Ghosts}
use Rattle.ticket_steps.specs.Books.{book_state}
use Rattle.ticket_steps.specs.Schedules.{Schedule, IsSchedule}
use Rattle.ticket_lock.specs.declared.views.Start.{Start}

module _ {K C R : Type 0} (k : Ghosts K C R) where
  -- the book is that at the end of a schedule of the core, which opened as this lock did
  pub record EndsSchedule (start : Start K) (book : K) : Type 0 where
    pub schedule : Schedule k.State C R
    pub is : IsSchedule k schedule
    pub opening : schedule.opening ≡ k.opening start.book
    pub numbers : schedule.numbers ≡ start.numbers
    pub draws : schedule.draws ≡ start.draws
    pub book_is : schedule.end.book ≡ book_state (k.state book) (k.history book) (k.refusals book)
