-- The facts that the seat learns from each of its steps.
use Rattle.std.specs.Prelude.{◌≡◌, ◌≢◌, ℕ, ◌<◌, ◌≤◌, List, [], ◌∷◌, length, Option, Some}
use Rattle.atomic_table.specs.Table.{Me, Step}
use Rattle.ticket_steps.specs.declared.books.Entry.{Entry}
use Rattle.ticket_steps.specs.declared.books.Kept.{Ghosts}
use Rattle.ticket_steps.specs.declared.seats.Phase.TheVariants.{Waiting, Holding}
use Rattle.ticket_lock.specs.declared.views.Start.{Start}
use Rattle.ticket_lock.specs.declared.views.View.{View}
use Rattle.ticket_lock.specs.Callers.{IsHandedOut, IsGlanceResult}
use Rattle.ticket_lock.specs.Endings.{EndsSchedule}
use Rattle.ticket_lock.specs.Views.{Follows, longer, view_after_draw, view_after_second_load, view_after_look, view_after_post, view_after_glance}
use Rattle.ticket_lock.specs.Views.{view_after_leave}

module _ {K C R : Type 0} where
  -- a draw: the number found is the ticket
  abbrev pub DrawFact : Step (Option K) → Me (Option K) (View K C R) → ℕ → Me (Option K) (View K C R) → Type 0
  DrawFact step before found after = after ≡ (view_after_draw found before.0, before.1)

  -- the second load of a gather: the two histories are first parts of one history, and the seat has seen the longer
  abbrev pub SecondLoadFact : Step (Option K) → Me (Option K) (View K C R) → ℕ → Me (Option K) (View K C R) → Type 0
  SecondLoadFact step before found after = before.0.seen ≡ longer before.0.one.seen before.0.two.seen
      → (after ≡ (view_after_second_load before.0, before.1)) × Follows before.0.one.numbers before.0.one.seen before.0.seen
      × Follows before.0.two.numbers before.0.two.seen before.0.seen
      × (length before.0.seat.numbers ≤ 1024) × (before.0.seat.calls ≤ 4398046510080)

  -- a post: the holder continues to hold, and knows the history and the refusals of the book after its call
  abbrev pub PostFact : List (Entry C R) → ℕ → Step (Option K) → Me (Option K) (View K C R) → ℕ → Me (Option K) (View K C R) → Type 0
  PostFact entries refused step before found after =
      (ticket : ℕ) → before.0.seat.phase ≡ Holding ticket → after ≡ (view_after_post ticket entries refused before.0, before.1)

module _ {K C R : Type 0} (k : Ghosts K C R) where
  -- a look: if the number found is the ticket, the book was taken out of its slot; otherwise nothing changed
  abbrev pub LookFact : Step (Option K) → Me (Option K) (View K C R) → ℕ → Me (Option K) (View K C R) → Type 0
  LookFact step before found after = (ticket : ℕ) → before.0.seat.phase ≡ Waiting ticket
      → (found ≡ ticket → (book : K) × (after ≡ (view_after_look k ticket before.0 book, (0, Some book) ∷ [])) ×
      ((start : Start K) → before.0.start ≡ Some start
      → IsHandedOut k start before.0.seat.numbers before.0.seen ticket book × EndsSchedule k start book))
      × (found ≢ ticket → (after ≡ before) × ((start : Start K) → before.0.start ≡ Some start → length before.0.seat.numbers < start.numbers))

  -- a leave: the book is back in its slot
  abbrev pub LeaveFact : Step (Option K) → Me (Option K) (View K C R) → ℕ → Me (Option K) (View K C R) → Type 0
  LeaveFact step before found after =
      (book : K) → before.1 ≡ (0, Some book) ∷ [] → (after ≡ (view_after_leave k before.0 book, [])) × (before.0.seat.calls < 4398046510080)

  -- a glance: there is a history that the seat has seen with it, and the number found is the word of the board after that history
  abbrev pub GlanceFact : Step (Option K) → Me (Option K) (View K C R) → ℕ → Me (Option K) (View K C R) → Type 0
  GlanceFact step before found after = (entries : List (Entry C R)) × (after ≡ (view_after_glance entries before.0, before.1)) ×
      ((start : Start K) → before.0.start ≡ Some start → IsGlanceResult k start before.0.seat.numbers before.0.seen entries step.word found)
