-- The parts of a running core that contracts see.
use Rattle.std.specs.Prelude.{◌≡◌, ℕ}
use Rattle.ticket_steps.specs.declared.books.Kept.{Ghosts}
use Rattle.ticket_steps.specs.declared.core_steps.Core.{Core}
use Rattle.ticket_steps.specs.Books.{book_state}
use Rattle.ticket_steps.specs.CoreStates.{CoreState, core_state}

module _ {K C R : Type 0} {G : Ghosts K C R} where
  -- the core state of a core
  abbrev pub core_state_of : Core K C R G → CoreState G.State C R
  core_state_of core = core_state core.next core.grants core.seats.items (book_state (G.state core.book) (G.history core.book) (G.refusals core.book))

  -- the state in which its book was opened
  abbrev pub core_opening : Core K C R G → G.State
  core_opening core = G.opening core.book

  -- the number of seat numbers with which it was opened
  abbrev pub core_numbers : Core K C R G → ℕ
  core_numbers core = core.numbers

  -- the number of draws that each seat number brought
  abbrev pub core_draws : Core K C R G → ℕ
  core_draws core = core.draws

  -- both were opened the same way
  pub record HasSameOpening (old new : Core K C R G) : Type 0 where
    pub opening : core_opening new ≡ core_opening old
    pub numbers : core_numbers new ≡ core_numbers old
    pub draws : core_draws new ≡ core_draws old
