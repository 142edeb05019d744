-- The happenings of the core: each event with its outcome, and the states to which it leads.
use Rattle.std.specs.Prelude.{◌≡◌, ◌≢◌, ℕ, ◌+◌, ◌<◌, List, [], ◌∷◌, ◌++◌, length, slice_index, slice_set, true, cond, ◌==◌, Ok, Err, Some, None}
use Rattle.ticket_steps.specs.declared.books.Entry.{Entry}
use Rattle.ticket_steps.specs.declared.books.Kept.{Ghosts}
use Rattle.ticket_steps.specs.declared.seats.CoreSeat.{CoreSeat}
use Rattle.ticket_steps.specs.declared.seats.Phase.TheVariants.{Idle, Waiting, Holding, Posted}
use Rattle.ticket_steps.specs.declared.events.Event.{Event}
use Rattle.ticket_steps.specs.declared.events.Event.TheVariants.{Split, Draw, Look, Post, Leave, Glance, Gather}
use Rattle.ticket_steps.specs.declared.events.Seen.{Seen}
use Rattle.ticket_steps.specs.declared.events.Seen.TheVariants as shows
use Rattle.ticket_steps.specs.Books.{BookState, with_entry, with_refusal}
use Rattle.ticket_steps.specs.CoreStates.{CoreState, core_state}
use Rattle.ticket_steps.specs.History.{entry}
use Rattle.ticket_steps.specs.Seats.{IsSeatAt, seat_after_split, other_seat, waiting_seat, holding_seat, posted_seat, seat_after_leave, gathered_seat}
use Rattle.ticket_steps.specs.Seats.{gone_seat}

-- one event with its outcome; seats are named by their own numbers. A call that was refused for memory leaves nothing here
pub data Happening (C R : Type 0) : Type 0 where
  -- a seat gave this many numbers to a new seat
  split : ℕ → ℕ → Happening C R
  -- a seat drew this ticket
  drew : ℕ → ℕ → Happening C R
  -- a seat looked, and its ticket isn't served yet
  waited : ℕ → Happening C R
  -- a seat looked, and holds
  held : ℕ → Happening C R
  -- the holder posted, and its call was recorded with this reply; it still holds
  posted : ℕ → C → R → Happening C R
  -- the holder posted, and its call was refused, out of memory; it still holds
  post_refused : ℕ → Happening C R
  -- the holder left, after it had posted its call
  left_posted : ℕ → Happening C R
  -- the holder left, and its call was recorded with this reply
  recorded : ℕ → C → R → Happening C R
  -- the holder left, and its call was refused, out of memory
  refused : ℕ → Happening C R
  -- a seat read this word at this place of the board
  glanced : ℕ → ℕ → ℕ → Happening C R
  -- a seat took over the second one
  gathered : ℕ → ℕ → Happening C R

module _ {C R : Type 0} where
  -- the result that the caller of an event sees
  abbrev pub readout : Happening C R → Seen R
  readout (split own count) = shows.Split
  readout (drew own ticket) = shows.Drew ticket
  readout (waited own) = shows.Waiting
  readout (held own) = shows.Held
  readout (posted own call reply) = shows.Posted (Ok reply)
  readout (post_refused own) = shows.Posted (Err (record {}))
  readout (left_posted own) = shows.Left None
  readout (recorded own call reply) = shows.Left (Some (Ok reply))
  readout (refused own) = shows.Left (Some (Err (record {})))
  readout (glanced own place word) = shows.Glanced word
  readout (gathered own other) = shows.Gathered

  -- the happening is this event
  abbrev pub IsOfEvent : Event C → Happening C R → Type 0
  IsOfEvent event (split own count) = event ≡ Split own count
  IsOfEvent event (drew own ticket) = event ≡ Draw own
  IsOfEvent event (waited own) = event ≡ Look own
  IsOfEvent event (held own) = event ≡ Look own
  IsOfEvent event (posted own call reply) = event ≡ Post own call
  IsOfEvent event (post_refused own) = (call : C) × (event ≡ Post own call)
  IsOfEvent event (left_posted own) = event ≡ Leave own None
  IsOfEvent event (recorded own call reply) = event ≡ Leave own (Some call)
  IsOfEvent event (refused own) = (call : C) × (event ≡ Leave own (Some call))
  IsOfEvent event (glanced own place word) = event ≡ Glance own place
  IsOfEvent event (gathered own other) = event ≡ Gather own other

  -- the calls that a number has recorded, by a post or by a leave, each with its reply, in their order
  abbrev pub recorded_by : ℕ → List (Happening C R) → List (Entry C R)
  recorded_by number [] = []
  recorded_by number (recorded own call reply ∷ hs) = cond (own == number) (entry own call reply ∷ recorded_by number hs) (recorded_by number hs)
  recorded_by number (posted own call reply ∷ hs) = cond (own == number) (entry own call reply ∷ recorded_by number hs) (recorded_by number hs)
  recorded_by number (_ ∷ hs) = recorded_by number hs

  -- all calls that were recorded, by a post or by a leave, each with its reply, in the order of the posts and leaves
  abbrev pub recordings : List (Happening C R) → List (Entry C R)
  recordings [] = []
  recordings (recorded own call reply ∷ hs) = entry own call reply ∷ recordings hs
  recordings (posted own call reply ∷ hs) = entry own call reply ∷ recordings hs
  recordings (_ ∷ hs) = recordings hs

  -- the number of calls that were made, by a post or by a leave, each recorded or refused
  abbrev pub calls_made : List (Happening C R) → ℕ
  calls_made [] = 0
  calls_made (posted own call reply ∷ hs) = 1 + calls_made hs
  calls_made (post_refused own ∷ hs) = 1 + calls_made hs
  calls_made (recorded own call reply ∷ hs) = 1 + calls_made hs
  calls_made (refused own ∷ hs) = 1 + calls_made hs
  calls_made (_ ∷ hs) = calls_made hs

  -- the number of calls that have ended: each leave ends one
  abbrev pub calls_ended : List (Happening C R) → ℕ
  calls_ended [] = 0
  calls_ended (left_posted own ∷ hs) = 1 + calls_ended hs
  calls_ended (recorded own call reply ∷ hs) = 1 + calls_ended hs
  calls_ended (refused own ∷ hs) = 1 + calls_ended hs
  calls_ended (_ ∷ hs) = calls_ended hs

  -- the number of calls that a seat has ended
  abbrev pub calls_ended_by : ℕ → List (Happening C R) → ℕ
  calls_ended_by number [] = 0
  calls_ended_by number (left_posted own ∷ hs) = cond (own == number) 1 0 + calls_ended_by number hs
  calls_ended_by number (recorded own call reply ∷ hs) = cond (own == number) 1 0 + calls_ended_by number hs
  calls_ended_by number (refused own ∷ hs) = cond (own == number) 1 0 + calls_ended_by number hs
  calls_ended_by number (_ ∷ hs) = calls_ended_by number hs

module _ {S C R : Type 0} where
  -- other seats; everything else stays as it was
  abbrev pub with_seats : CoreState S C R → List CoreSeat → CoreState S C R
  with_seats b seats = core_state b.next b.served seats b.book

  -- the holder at the place i has posted: the book contains what the post added, and the seat still holds
  abbrev pub after_post : CoreState S C R → ℕ → ℕ → CoreSeat → BookState S C R → CoreState S C R
  after_post b i ticket p book = core_state b.next b.served (slice_set b.seats i (posted_seat ticket p)) book

  -- the holder at the place i has left: its call has ended, and this book is home
  abbrev pub after_leave : CoreState S C R → ℕ → CoreSeat → BookState S C R → CoreState S C R
  after_leave b i p book = core_state b.next (b.served + 1) (slice_set b.seats i (seat_after_leave p)) book

module _ {K C R : Type 0} (k : Ghosts K C R) (draws : ℕ) where
  -- this event and outcome lead from one core state to another; each number brings this many draws
  abbrev pub Moves : CoreState k.State C R → Happening C R → CoreState k.State C R → Type 0
  -- a fresh idle seat gives its last numbers, at least one and not all, with all their draws, to a new seat
  Moves b (split own count) c = (i : ℕ) × (p : CoreSeat) × IsSeatAt b.seats i own Idle p × (p.fresh ≡ true) × (0 < count) × (count < length p.numbers)
      × (c ≡ with_seats b (slice_set b.seats i (seat_after_split draws count p) ++ other_seat draws count p ∷ []))
  -- an idle seat with a draw left gets the next ticket
  Moves b (drew own ticket) c = (i : ℕ) × (p : CoreSeat) × IsSeatAt b.seats i own Idle p × (0 < p.left) × (ticket ≡ b.next)
      × (c ≡ core_state (b.next + 1) b.served (slice_set b.seats i (waiting_seat b.next p)) b.book)
  -- a seat whose ticket isn't the number served still waits
  Moves b (waited own) c = (i : ℕ) × (p : CoreSeat) × (ticket : ℕ) × IsSeatAt b.seats i own (Waiting ticket) p × (ticket ≢ b.served) × (c ≡ b)
  -- a seat whose ticket is the number served becomes the holder
  Moves b (held own) c = (i : ℕ) × (p : CoreSeat) × IsSeatAt b.seats i own (Waiting b.served) p × (c ≡ with_seats b (slice_set b.seats i (holding_seat b.served p)))
  -- the holder posts its call, which has a place on the board; the call is recorded under the holder's own number, with the reply of the sequential
  -- step
  Moves b (posted own call reply) c =
      (i : ℕ) × (p : CoreSeat) × (ticket : ℕ) × IsSeatAt b.seats i own (Holding ticket) p × (reply ≡ (k.step b.book.state call).1)
      × (c ≡ after_post b i ticket p (with_entry k.step own call b.book)) × ((place : ℕ) × (k.posts_at b.book.state call ≡ Some place))
  -- the holder posts its call, and it is refused for memory
  Moves b (post_refused own) c =
      (i : ℕ) × (p : CoreSeat) × (ticket : ℕ) × IsSeatAt b.seats i own (Holding ticket) p × (c ≡ after_post b i ticket p (with_refusal b.book))
  -- the holder leaves after it has posted its call: nothing more is recorded
  Moves b (left_posted own) c = (i : ℕ) × (p : CoreSeat) × (ticket : ℕ) × IsSeatAt b.seats i own (Posted ticket) p × (c ≡ after_leave b i p b.book)
  -- the holder leaves with its call, which has no place on the board; the call is recorded under the holder's own number, with the reply of the
  -- sequential step
  Moves b (recorded own call reply) c =
      (i : ℕ) × (p : CoreSeat) × (ticket : ℕ) × IsSeatAt b.seats i own (Holding ticket) p × (reply ≡ (k.step b.book.state call).1)
      × (c ≡ after_leave b i p (with_entry k.step own call b.book)) × (k.posts_at b.book.state call ≡ None)
  -- the holder leaves with its call refused for memory
  Moves b (refused own) c = (i : ℕ) × (p : CoreSeat) × (ticket : ℕ) × IsSeatAt b.seats i own (Holding ticket) p × (c ≡ after_leave b i p (with_refusal b.book))
  -- an idle seat reads a word of the board, which shows the state of the book
  Moves b (glanced own place word) c =
      (i : ℕ) × (p : CoreSeat) × IsSeatAt b.seats i own Idle p × (place < length (k.board b.book.state))
      × (word ≡ slice_index (k.board b.book.state) place) × (c ≡ b)
  -- the first of two idle seats takes over the numbers and calls of the second
  Moves b (gathered own other) c =
      (i : ℕ) × (p : CoreSeat) × (k : ℕ) × (q : CoreSeat) × IsSeatAt b.seats i own Idle p × IsSeatAt b.seats k other Idle q × (own ≢ other)
      × (c ≡ with_seats b (slice_set (slice_set b.seats i (gathered_seat p q)) k gone_seat))

  -- these events and outcomes, one after another, lead from one core state to another
  abbrev pub Leads : CoreState k.State C R → List (Happening C R) → CoreState k.State C R → Type 0
  Leads b [] c = c ≡ b
  Leads b (h ∷ hs) c = (d : CoreState k.State C R) × Moves b h d × Leads d hs c
