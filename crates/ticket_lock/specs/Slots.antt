-- The rule, second part: if no seat holds, the book is in its slot, and while a seat holds, the slot is empty. Only the opening state, the entries
-- and the refusals of a book count.
use Rattle.std.specs.Prelude.{◌≡◌, ◌<◌, Option, Some, length}
use mathlib.Core.Option.{none, some}
use lib.ListN.{get_elem?}
use Rattle.atomic_table.specs.Table.{State}
use Rattle.ticket_steps.specs.declared.books.Kept.{Ghosts}
use Rattle.ticket_steps.specs.Books.{BookState}
use Rattle.ticket_steps.specs.CoreStates.{CoreState, IsHome}
use Rattle.ticket_steps.specs.Seats.{holders}
use Rattle.ticket_lock.specs.declared.views.Start.{Start}
use Rattle.ticket_lock.specs.declared.views.View.{View}

module _ {K C R : Type 0} (k : Ghosts K C R) (start : Start K) where
  -- this is the book of the core, and the book with which the lock was opened
  pub record IsBook (b : BookState k.State C R) (book : K) : Type 0 where
    pub opening : k.opening book ≡ k.opening start.book
    pub entries : k.history book ≡ b.entries
    pub refused : k.refusals book ≡ b.refused

  -- the one slot and its book
  pub record IsSlotOf (c : CoreState k.State C R) (s : State (Option K) (View K C R)) : Type 0 where
    pub one_slot : length s.homes ≡ 1
    pub home : IsHome c → (book : K) × (get_elem? s.homes 0 ≡ some (some (Some book))) × IsBook c.book book
    pub away : 0 < holders c.seats → get_elem? s.homes 0 ≡ some none
