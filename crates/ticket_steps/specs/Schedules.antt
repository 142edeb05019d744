-- Schedules: the events since an opening, made by the seats in any order, and the core state at the end.
use Rattle.std.specs.Prelude.{◌≡◌, ℕ, ◌<◌, ◌≤◌, List, length, slice_index}
use mathlib.Core.List.{IsPrefix}
use Rattle.ticket_steps.specs.declared.books.Entry.{Entry}
use Rattle.ticket_steps.specs.declared.books.Kept.{Ghosts}
use Rattle.ticket_steps.specs.CoreStates.{CoreState, opening_core}
use Rattle.ticket_steps.specs.Happenings.{Happening, Leads}
use Rattle.ticket_steps.specs.History.{IsLegal, replay}
use Rattle.ticket_steps.specs.Seats.{tickets_at}

pub record Schedule (S C R : Type 0) : Type 0 where
  -- the state of the book when the core was opened
  pub opening : S
  -- the number of seat numbers, and the number of draws that each brings
  pub numbers : ℕ
  pub draws : ℕ
  -- each event with its outcome, oldest first
  pub happenings : List (Happening C R)
  pub end : CoreState S C R

-- the events lead from the opening to the end
pub record IsSchedule {K C R : Type 0} (k : Ghosts K C R) (s : Schedule k.State C R) : Type 0 where
  pub nonempty_numbers : 0 < s.numbers
  pub bounded_numbers : s.numbers ≤ 1024
  pub leads : Leads k s.draws (opening_core s.numbers s.draws s.opening) s.happenings s.end

-- the word at this place is the word after some first part of these entries, which is a legal history from the opening state
pub record ShowsAt {K C R : Type 0} (k : Ghosts K C R) (opening : k.State) (place word : ℕ) (later : List (Entry C R)) : Type 0 where
  pub entries : List (Entry C R)
  pub prefix : IsPrefix entries later
  pub legal : IsLegal k.step opening entries
  pub within : place < length (k.board (replay k.step opening entries))
  pub word_is : word ≡ slice_index (k.board (replay k.step opening entries)) place

module _ {S C R : Type 0} where
  -- one seat has each ticket from the number served to the last drawn, and no seat has any other ticket
  pub record IsLine (c : CoreState S C R) : Type 0 where
    pub past : (ticket : ℕ) → ticket < c.served → tickets_at ticket c.seats ≡ 0
    pub in_line : (ticket : ℕ) → c.served ≤ ticket → ticket < c.next → tickets_at ticket c.seats ≡ 1
    pub to_come : (ticket : ℕ) → c.next ≤ ticket → tickets_at ticket c.seats ≡ 0
