-- The rule of the lock's table: the facts of the words, the slot and all views between any two steps.
use Rattle.std.specs.Prelude.{◌<◌, ◌≤◌, List, Option}
use Rattle.atomic_table.specs.Table.{State}
use Rattle.ticket_steps.specs.declared.books.Kept.{Ghosts}
use Rattle.ticket_steps.specs.CoreStates.{CoreState}
use Rattle.ticket_steps.specs.Happenings.{Happening}
use Rattle.ticket_lock.specs.declared.views.Start.{Start}
use Rattle.ticket_lock.specs.declared.views.View.{View}
use Rattle.ticket_lock.specs.Words.{IsCoreOf}
use Rattle.ticket_lock.specs.Slots.{IsSlotOf}
use Rattle.ticket_lock.specs.Histories.{AreTrueViews}

module _ {K C R : Type 0} (k : Ghosts K C R) (start : Start K) where
  -- the events so far led the table to this core state
  pub record IsTableOf (happenings : List (Happening C R)) (c : CoreState k.State C R) (s : State (Option K) (View K C R)) : Type 0 where
    pub nonempty_numbers : 0 < start.numbers
    pub bounded_numbers : start.numbers ≤ 1024
    pub bounded_draws : start.draws ≤ 4294967295
    pub words : IsCoreOf k start happenings c s
    pub slot : IsSlotOf k start c s
    pub known : AreTrueViews start c s

  -- the table is that of a core state to which some schedule leads
  abbrev pub ObeysRule : State (Option K) (View K C R) → Type 0
  ObeysRule s = (happenings : List (Happening C R)) × (c : CoreState k.State C R) × IsTableOf happenings c s
