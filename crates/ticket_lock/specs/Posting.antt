-- The hold and the book before a post, and the hold after it.
use Rattle.std.specs.Prelude.{◌≡◌, ℕ, ◌<◌, Some, true, false}
use Rattle.ticket_steps.specs.declared.books.Kept.{Ghosts}
use Rattle.ticket_lock.specs.declared.lock.TicketLock.{TicketLock}
use Rattle.ticket_lock.specs.declared.tokens.Hold.{Hold}
use Rattle.ticket_lock.specs.Callers.{caller_with_history}
use Rattle.ticket_lock.specs.Steps.{IsBookAfterCall}
use Rattle.ticket_lock.specs.Tokens.{start_of, words_of, hold_of, held_ticket_of, has_posted, refused_before, IsHoldOf}

module _ {K C R : Type 0} {G : Ghosts K C R} where
  -- a hold of this lock that hasn't posted, with a book whose new call has this place on the board
  abbrev pub MayPost : TicketLock K C R G → Hold K C R G → K → ℕ → Type 0
  MayPost lock hold book place = IsHoldOf lock hold × (has_posted hold ≡ false)
      × IsBookAfterCall G (start_of lock) (hold_of hold).own (hold_of hold).seen (refused_before hold) (Some place) book × (place < words_of lock)

  -- the same hold, which has posted this book
  abbrev pub HasPosted : TicketLock K C R G → Hold K C R G → K → Hold K C R G → Type 0
  HasPosted lock hold book result = IsHoldOf lock result × (has_posted result ≡ true) × (hold_of result ≡ caller_with_history (G.history book) (hold_of hold))
      × (held_ticket_of result ≡ held_ticket_of hold) × (refused_before result ≡ G.refusals book)
