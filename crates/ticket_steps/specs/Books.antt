-- The facts of every kind of book: its state, its entries and its refusals.
use Rattle.std.specs.Prelude.{◌≡◌, ℕ, ◌+◌, List, [], ◌∷◌, ◌++◌, length}
use Rattle.ticket_steps.specs.declared.books.Entry.{Entry}
use Rattle.ticket_steps.specs.History.{entry, replay, IsLegal}

pub record BookState (S C R : Type 0) : Type 0 where
  pub state : S
  pub entries : List (Entry C R)
  pub refused : ℕ

module _ {S C R : Type 0} where
  abbrev pub book_state : S → List (Entry C R) → ℕ → BookState S C R
  book_state state entries refused = record { state = state; entries = entries; refused = refused }

  -- a book without entries and refusals
  abbrev pub empty_book : S → BookState S C R
  empty_book state = book_state state [] 0

  -- the number of calls that a book has handled: its entries, and its refused calls
  abbrev pub calls_handled : BookState S C R → ℕ
  calls_handled book = length book.entries + book.refused

  -- one more refusal, and nothing else changed
  abbrev pub with_refusal : BookState S C R → BookState S C R
  with_refusal book = book_state book.state book.entries (book.refused + 1)

  module _ (step : S → C → S × R) where
    -- one more entry, with the sequential step's reply and the state that the step leaves
    abbrev pub with_entry : ℕ → C → BookState S C R → BookState S C R
    with_entry number call book = book_state (step book.state call).0 (book.entries ++ entry number call (step book.state call).1 ∷ []) book.refused

    -- a lawful book: its entries are legal from its opening state, and its state is their replay
    pub record IsLawfulBook (opening : S) (book : BookState S C R) : Type 0 where
      pub legal : IsLegal step opening book.entries
      pub replayed : book.state ≡ replay step opening book.entries
