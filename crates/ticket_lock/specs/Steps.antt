-- The moments of the lock's table, and the meaning of "a step is one event".
use Rattle.std.specs.Prelude.{◌≡◌, ℕ, ◌+◌, List, [], ◌∷◌, ◌++◌, slice_index, Option, Some, ◌⊎◌}
use mathlib.Core.Option.{some}
use lib.ListN.{get_elem?}
use Rattle.atomic_table.specs.Table.{State, Me, opening}
use Rattle.ticket_steps.specs.declared.books.Entry.{Entry}
use Rattle.ticket_steps.specs.declared.books.Kept.{Ghosts}
use Rattle.ticket_steps.specs.CoreStates.{CoreState}
use Rattle.ticket_steps.specs.Happenings.{Happening, Moves}
use Rattle.ticket_steps.specs.History.{replay}
use Rattle.ticket_lock.specs.declared.views.Start.{Start}
use Rattle.ticket_lock.specs.declared.views.View.{View}
use Rattle.ticket_lock.specs.Layout.{first_words}
use Rattle.ticket_lock.specs.Rule.{IsTableOf}
use Rattle.ticket_lock.specs.Views.{first_view}

module _ {K C R : Type 0} (k : Ghosts K C R) where
  -- The new table: no ticket is drawn, and ticket 0 is served. The board shows the state in which the book was opened, the book is in its slot, and
  -- one seat has all numbers.
  abbrev pub first_table : Start K → State (Option K) (View K C R)
  first_table start = opening (first_words (k.board (k.opening start.book))) (Some start.book ∷ []) (first_view start)

  -- the word at this place of the board of this book
  abbrev pub word_in : K → ℕ → ℕ
  word_in book place = slice_index (k.board (k.state book)) place

  -- the place at which this call is posted, if it is made after these entries; None if it is not posted
  abbrev pub place_after : Start K → List (Entry C R) → C → Option ℕ
  place_after start entries call = k.posts_at (replay k.step (k.opening start.book) entries) call

  -- The book is the one that was taken out with these entries and refusals, with one more entry of this number or one more refusal. The call of that
  -- entry is posted at this place.
  pub record IsBookAfterCall (start : Start K) (own : ℕ) (seen : List (Entry C R)) (refused : ℕ) (place : Option ℕ) (book : K) : Type 0 where
    pub opening : k.opening book ≡ k.opening start.book
    pub more : ((e : Entry C R) × (e.pass ≡ own) × (k.history book ≡ seen ++ e ∷ []) × (k.refusals book ≡ refused)
        × (place_after start seen e.call ≡ place)) ⊎
        ((k.history book ≡ seen) × (k.refusals book ≡ refused + 1))

  -- the book is the one that was posted, with these entries and refusals
  pub record IsBookAfterPost (start : Start K) (seen : List (Entry C R)) (refused : ℕ) (book : K) : Type 0 where
    pub opening : k.opening book ≡ k.opening start.book
    pub entries : k.history book ≡ seen
    pub refused_is : k.refusals book ≡ refused

-- A moment of the table, for one of its seats. It has the start of the lock, the events so far, the core state to which they led, the table, and the
-- seat that makes the next step.
pub record TableMoment (K S C R : Type 0) : Type 0 where
  pub start : Start K
  pub happenings : List (Happening C R)
  pub core : CoreState S C R
  pub table : State (Option K) (View K C R)
  -- the seat's number in the table, its view, and the slots that it owns
  pub id : ℕ
  pub me : Me (Option K) (View K C R)

module _ {K C R : Type 0} (k : Ghosts K C R) where
  pub record IsTableMoment (m : TableMoment K k.State C R) : Type 0 where
    pub ruled : IsTableOf k m.start m.happenings m.core m.table
    pub there : get_elem? m.table.views m.id ≡ some m.me.0

  -- the step to this table takes the core state to the state after this one event
  abbrev pub IsOneEvent : TableMoment K k.State C R → Happening C R → State (Option K) (View K C R) → Type 0
  IsOneEvent m h s = (d : CoreState k.State C R) × Moves k m.start.draws m.core h d × IsTableOf k m.start (m.happenings ++ h ∷ []) d s

  -- the step to this table leaves the core state as it was
  abbrev pub IsNoEvent : TableMoment K k.State C R → State (Option K) (View K C R) → Type 0
  IsNoEvent m s = IsTableOf k m.start m.happenings m.core s
