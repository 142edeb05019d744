-- Endless schedules: a happening for each number, and the core state before each.
use Rattle.std.specs.Prelude.{◌≡◌, ℕ, ◌+◌, ◌<◌, ◌≤◌, Option}
use mathlib.Core.Option.{some}
use lib.ListN.{get_elem?}
use Rattle.ticket_steps.specs.declared.books.Kept.{Ghosts}
use Rattle.ticket_steps.specs.declared.seats.CoreSeat.{CoreSeat}
use Rattle.ticket_steps.specs.declared.seats.Phase.TheVariants.{Waiting}
use Rattle.ticket_steps.specs.declared.events.Event.TheVariants.{Look, Leave}
use Rattle.ticket_steps.specs.CoreStates.{CoreState, opening_core}
use Rattle.ticket_steps.specs.Happenings.{Happening, IsOfEvent, Moves}
use Rattle.ticket_steps.specs.Seats.{IsSeatAt, Holds}

pub record Endless (S C R : Type 0) : Type 0 where
  -- the state of the book when the core was opened
  pub opening : S
  -- the number of seat numbers, and the number of draws that each brings
  pub numbers : ℕ
  pub draws : ℕ
  -- each event with its outcome, and the core state before it
  pub happening : ℕ → Happening C R
  pub state : ℕ → CoreState S C R

module _ {K C R : Type 0} (k : Ghosts K C R) where
  -- the events lead from the opening on, without end
  pub record IsEndless (s : Endless k.State C R) : Type 0 where
    pub nonempty_numbers : 0 < s.numbers
    pub opens : s.state 0 ≡ opening_core s.numbers s.draws s.opening
    pub leads : (n : ℕ) → Moves k s.draws (s.state n) (s.happening n) (s.state (n + 1))

module _ {S C R : Type 0} where
  -- each seat that waits looks at some later time, and each seat that holds leaves at some later time
  pub record IsFair (s : Endless S C R) : Type 0 where
    pub looks : (n i own ticket : ℕ) (p : CoreSeat) → IsSeatAt (s.state n).seats i own (Waiting ticket) p
        → (m : ℕ) × (n ≤ m) × IsOfEvent (Look own) (s.happening m)
    pub leaves : (n i ticket : ℕ) (p : CoreSeat) → get_elem? (s.state n).seats i ≡ some p → Holds ticket p.phase
        → (m : ℕ) × (call : Option C) × (n ≤ m) × IsOfEvent (Leave p.own call) (s.happening m)

  -- at some time after this one, the seat with this number holds, with this ticket
  abbrev pub HoldsLater : Endless S C R → ℕ → ℕ → ℕ → Type 0
  HoldsLater s n own ticket = (m i : ℕ) × (p : CoreSeat) × (n < m) × (get_elem? (s.state m).seats i ≡ some p) × (p.own ≡ own) × Holds ticket p.phase
