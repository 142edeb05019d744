-- The rule, first part: the words and the phases of the seats are a core state to which a schedule leads.
use Rattle.std.specs.Prelude.{◌≡◌, ℕ, List, map, Option}
use Rattle.atomic_table.specs.Table.{State}
use Rattle.ticket_steps.specs.declared.books.Kept.{Ghosts}
use Rattle.ticket_steps.specs.CoreStates.{CoreState, opening_core}
use Rattle.ticket_steps.specs.Grants.{AreGrantsOf}
use Rattle.ticket_steps.specs.Happenings.{Happening, Leads}
use Rattle.ticket_lock.specs.declared.views.Start.{Start}
use Rattle.ticket_lock.specs.declared.views.View.{View}
use Rattle.ticket_lock.specs.Layout.{table_words}
use Rattle.ticket_lock.specs.Views.{seat_in}

-- the words if this is the next ticket, this number is served, and this is the board
pub record AreWordsOf (next served : ℕ) (board ws : List ℕ) : Type 0 where
  pub grants : List ℕ
  pub words : ws ≡ table_words next grants board
  -- The greatest of the grant words is the number served. For a ticket that isn't left yet, the word that it watches equals the ticket exactly if the
  -- ticket is served.
  pub keep : AreGrantsOf served grants

module _ {K C R : Type 0} (k : Ghosts K C R) (start : Start K) where
  -- the events since the opening led to the core state of these words and views
  pub record IsCoreOf (happenings : List (Happening C R)) (c : CoreState k.State C R) (s : State (Option K) (View K C R)) : Type 0 where
    -- the board shows the state of the book, which is at home or with its holder
    pub words : AreWordsOf c.next c.served (k.board c.book.state) s.words
    pub seats : c.seats ≡ map seat_in s.views
    pub leads : Leads k start.draws (opening_core start.numbers start.draws (k.opening start.book)) happenings c
