-- The rule, third part: the history that each seat has seen is a first part of the one history, and the seat's calls are in it.
use Rattle.std.specs.Prelude.{◌≡◌, ℕ, ◌+◌, ◌≤◌, Option, Some}
use mathlib.Core.Option.{some}
use lib.ListN.{get_elem?}
use Rattle.atomic_table.specs.Table.{State}
use Rattle.ticket_steps.specs.Books.{BookState}
use Rattle.ticket_steps.specs.CoreStates.{CoreState}
use Rattle.ticket_steps.specs.Seats.{Holds}
use Rattle.ticket_steps.specs.Sums.{occurrences}
use Rattle.ticket_lock.specs.declared.views.Start.{Start}
use Rattle.ticket_lock.specs.declared.views.View.{View}
use Rattle.ticket_lock.specs.Views.{Follows}

module _ {K S C R : Type 0} (start : Start K) where
  -- the knowledge of a seat, if this is the book at home or with its holder
  pub record IsTrueView (b : BookState S C R) (v : View K C R) : Type 0 where
    -- it knows how the lock was opened
    pub start_is : (o : Start K) → v.start ≡ Some o → o ≡ start
    -- it has seen all entries of the numbers for which it answers
    pub seen : Follows v.seat.numbers v.seen b.entries
    -- so have the two seats from which it was made
    pub one : Follows v.one.numbers v.one.seen b.entries
    pub two : Follows v.two.numbers v.two.seen b.entries
    pub within : (number : ℕ) → occurrences number v.one.numbers + occurrences number v.two.numbers ≤ occurrences number v.seat.numbers
    -- a holder has seen the whole history, and knows how many calls were refused when it took the book out, or when it posted
    pub out : (ticket : ℕ) → Holds ticket v.seat.phase → (v.seen ≡ b.entries) × (v.refused ≡ b.refused)

  -- this holds of all seats
  pub record AreTrueViews (c : CoreState S C R) (s : State (Option K) (View K C R)) : Type 0 where
    pub each : (i : ℕ) (v : View K C R) → get_elem? s.views i ≡ some v → IsTrueView c.book v
