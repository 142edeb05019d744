-- The board that a lock shows.
use Rattle.std.specs.Prelude.{ℕ, List, length}
use Rattle.ticket_steps.specs.declared.books.Entry.{Entry}
use Rattle.ticket_steps.specs.declared.books.Kept.{Ghosts}
use Rattle.ticket_steps.specs.History.{replay}

module _ {K C R : Type 0} (k : Ghosts K C R) where
  -- the board after these entries, in a lock that was opened with this book
  abbrev pub board_after : K → List (Entry C R) → List ℕ
  board_after book entries = k.board (replay k.step (k.opening book) entries)

  -- the number of its words: the number of words of the state in which the book was opened
  abbrev pub board_length : K → ℕ
  board_length book = length (k.board (k.opening book))
