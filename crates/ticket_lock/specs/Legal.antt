-- A history that is legal from the opening of the lock.
use Rattle.std.specs.Prelude.{◌≡◌, List, Option, Some, None}
use Rattle.std.specs.Coded.{Unit-prop}
use Rattle.ticket_steps.specs.declared.books.Entry.{Entry}
use Rattle.ticket_steps.specs.declared.books.Kept.{Ghosts}
use Rattle.ticket_steps.specs.History.{IsLegal, IsLegal-prop}
use Rattle.ticket_lock.specs.declared.views.Start.{Start}

module _ {K C R : Type 0} (k : Ghosts K C R) where
  -- each reply is that of the book's sequential step, from the state of the book with which the lock was opened
  abbrev pub IsLegalFrom : Option (Start K) → List (Entry C R) → Type 0
  IsLegalFrom None es = Unit {0}
  IsLegalFrom (Some start) es = IsLegal k.step (k.opening start.book) es

  pub IsLegalFrom-prop : ((a b : R) → IsProp (a ≡ b)) → (start : Option (Start K)) (es : List (Entry C R)) → IsProp (IsLegalFrom start es)
  IsLegalFrom-prop set None es = Unit-prop
  IsLegalFrom-prop set (Some start) es = IsLegal-prop k.step set (k.opening start.book) es
