-- The kinds of step of the lock. For each kind: its word, its operation, the table after it, its event, and the fact that its seat learns.
use Rattle.std.specs.Prelude.{◌≡◌, ◌≢◌, ◌⊎◌, ⊤, ℕ, ◌+◌, ◌%◌, ◌<◌, ◌++◌, [], ◌∷◌, length, Bool, true, false, slice_index, slice_set, Option, Some, None}
use mathlib.Core.Option.{some}
use lib.ListN.{get_elem?}
use Rattle.atomic_table.specs.Table.{State, Me, Act, Step, keeps, takes, gives, Valid, carried_after, stepped}
use Rattle.ticket_steps.specs.declared.books.Kept.{Ghosts}
use Rattle.ticket_steps.specs.declared.seats.Phase.TheVariants.{Idle, Waiting, Holding, Posted}
use Rattle.ticket_steps.specs.Happenings.{Happening}
use Rattle.ticket_steps.specs.Happenings as event
use Rattle.ticket_steps.specs.Seats.{Holds}
use Rattle.ticket_lock.specs.declared.views.View.{View}
use Rattle.ticket_lock.specs.Boards.{board_length}
use Rattle.ticket_lock.specs.GhostSteps.{DrawFact, LookFact, PostFact, LeaveFact, SecondLoadFact, GlanceFact}
use Rattle.ticket_lock.specs.Layout.{grant_word, board_word, next_word}
use Rattle.ticket_lock.specs.Steps.{TableMoment, IsOneEvent, IsNoEvent, IsBookAfterCall, IsBookAfterPost, word_in}
use Rattle.ticket_lock.specs.Views.{longer, spent_view, view_after_split, split_view, view_after_draw, view_after_look, view_after_post, view_after_leave}
use Rattle.ticket_lock.specs.Views.{gathered_view, view_after_second_load, view_after_glance}

pub data Kind (K C R : Type 0) : Type 0 where
  -- the seat gives this many numbers to a new seat
  split : ℕ → Kind K C R
  -- the seat draws the next ticket
  draw : Kind K C R
  -- the seat looks, its ticket is served, and it takes this book
  look_held : K → Kind K C R
  -- the seat looks, and this ticket isn't served yet
  look_waits : ℕ → Kind K C R
  -- the holder of this ticket posts at this place the call that it has recorded in this book, and continues to hold
  post : ℕ → ℕ → K → Kind K C R
  -- the holder of this ticket leaves, and has put this book back; `true` if it has posted its call
  leave : Bool → ℕ → K → Kind K C R
  -- the seat takes over another, which has this number in the table and this view
  gather : ℕ → View K C R → Kind K C R
  -- the second load of a gather
  second_load : Kind K C R
  -- the seat reads the word at this place of the board
  glance : ℕ → Kind K C R

-- the book is in the slot of the table
abbrev pub IsInSlot : {K C R : Type 0} → State (Option K) (View K C R) → K → Type 0
IsInSlot s book = get_elem? s.homes 0 ≡ some (some (Some book))

module _ {K C R : Type 0} (k : Ghosts K C R) (m : TableMoment K k.State C R) where
  -- the word that the step loads, adds to or stores in; a split and a gather change only views
  abbrev pub word_of : Kind K C R → ℕ
  word_of draw = next_word
  word_of (look_held book) = grant_word m.core.served
  word_of (look_waits ticket) = grant_word ticket
  word_of (post ticket place book) = board_word place
  word_of (leave posted ticket book) = grant_word (ticket + 1)
  word_of second_load = next_word
  word_of (glance place) = board_word place
  word_of _ = next_word

  -- the number in the word after the operation, if this one was found: an add of one, a store, or a load
  abbrev pub number_after : Kind K C R → ℕ → ℕ
  number_after draw found = (found + 1) % 18446744073709551616
  number_after (post ticket place book) found = word_in k book place
  number_after (leave posted ticket book) found = ticket + 1
  number_after _ found = found

  -- what the seat does with the slot
  abbrev pub act_of : Kind K C R → Act (Option K)
  act_of (look_held book) = takes 0 (Some book)
  act_of (leave posted ticket book) = gives
  act_of _ = keeps

  -- the view of the seat after the step
  abbrev pub view_after : Kind K C R → View K C R
  view_after (split count) = view_after_split count m.me.0
  view_after draw = view_after_draw m.core.next m.me.0
  view_after (look_held book) = view_after_look k m.core.served m.me.0 book
  view_after (look_waits ticket) = m.me.0
  view_after (post ticket place book) = view_after_post ticket (k.history book) (k.refusals book) m.me.0
  view_after (leave posted ticket book) = view_after_leave k m.me.0 book
  view_after (gather other w) = gathered_view m.me.0 w
  view_after second_load = view_after_second_load m.me.0
  view_after (glance place) = view_after_glance m.core.book.entries m.me.0

  -- the number that the step finds in its word
  abbrev pub found_in : Kind K C R → ℕ
  found_in kind = slice_index m.table.words (word_of kind)

  -- The table after the step. A split adds a seat with the last numbers, and a gather ends the other seat. Each other step changes its word, what its
  -- seat does with the slot, and the view of its seat.
  abbrev pub table_after : Kind K C R → State (Option K) (View K C R)
  table_after (split count) = record {
    words = m.table.words;
    homes = m.table.homes;
    views = slice_set m.table.views m.id (view_after_split count m.me.0) ++ split_view count m.me.0 ∷ [];
  }
  table_after (gather other w) = record {
    words = m.table.words;
    homes = m.table.homes;
    views = slice_set (slice_set m.table.views m.id (gathered_view m.me.0 w)) other spent_view;
  }
  table_after kind = stepped m.table (word_of kind) (number_after kind (found_in kind)) m.id m.me.1 (view_after kind) (act_of kind)

  -- the seat can make the step: its phase, its numbers and draws, and its book allow it
  abbrev pub IsReady : Kind K C R → Type 0
  IsReady (split count) = (m.me.0.start ≡ Some m.start) × (m.me.0.seat.phase ≡ Idle) × (m.me.0.seat.fresh ≡ true)
      × (0 < count) × (count < length m.me.0.seat.numbers)
  IsReady draw = (m.me.0.seat.phase ≡ Idle) × (0 < m.me.0.seat.left)
  IsReady (look_held book) = (m.me.0.seat.phase ≡ Waiting m.core.served) × IsInSlot m.table book
  IsReady (look_waits ticket) = (m.me.0.seat.phase ≡ Waiting ticket) × (ticket ≢ m.core.served)
  IsReady (post ticket place book) = (m.me.0.seat.phase ≡ Holding ticket)
      × IsBookAfterCall k m.start m.me.0.seat.own m.me.0.seen m.me.0.refused (Some place) book
  IsReady (leave true ticket book) = (m.me.0.seat.phase ≡ Posted ticket) × (m.me.1 ≡ (0, Some book) ∷ [])
      × IsBookAfterPost k m.start m.me.0.seen m.me.0.refused book
  IsReady (leave false ticket book) = (m.me.0.seat.phase ≡ Holding ticket) × (m.me.1 ≡ (0, Some book) ∷ [])
      × IsBookAfterCall k m.start m.me.0.seat.own m.me.0.seen m.me.0.refused None book
  IsReady (gather other w) = (m.me.0.seat.phase ≡ Idle) × (other ≢ m.id) × (get_elem? m.table.views other ≡ some w) × (w.seat.phase ≡ Idle)
  IsReady second_load = m.me.0.seat.phase ≡ Idle
  IsReady (glance place) = (m.me.0.seat.phase ≡ Idle) × (place < board_length k m.start.book)

  -- The step to this table is this one event of the core. The second load of a gather is no event.
  abbrev pub IsEventOf : Kind K C R → State (Option K) (View K C R) → Type 0
  IsEventOf (split count) s = IsOneEvent k m (event.split m.me.0.seat.own count) s
  IsEventOf draw s = IsOneEvent k m (event.drew m.me.0.seat.own m.core.next) s
  IsEventOf (look_held book) s = IsOneEvent k m (event.held m.me.0.seat.own) s
  IsEventOf (look_waits ticket) s = IsOneEvent k m (event.waited m.me.0.seat.own) s
  IsEventOf (post ticket place book) s = (h : Happening C R)
      × (((call : C) × (reply : R) × (h ≡ event.posted m.me.0.seat.own call reply)) ⊎ (h ≡ event.post_refused m.me.0.seat.own)) × IsOneEvent k m h s
  IsEventOf (leave true ticket book) s = IsOneEvent k m (event.left_posted m.me.0.seat.own) s
  IsEventOf (leave false ticket book) s = (h : Happening C R)
      × (((call : C) × (reply : R) × (h ≡ event.recorded m.me.0.seat.own call reply)) ⊎ (h ≡ event.refused m.me.0.seat.own)) × IsOneEvent k m h s
  IsEventOf (gather other w) s = IsOneEvent k m (event.gathered m.me.0.seat.own w.seat.own) s
  IsEventOf second_load s = IsNoEvent k m s
  IsEventOf (glance place) s = IsOneEvent k m (event.glanced m.me.0.seat.own place (slice_index m.table.words (board_word place))) s

  -- The fact that the seat learns from the step: it is about the number found in the word, and the seat after the step. A store finds no number, so its
  -- fact names the one that it stores. A split and a gather show nothing.
  abbrev pub Fact : Kind K C R → Step (Option K) → ℕ → Me (Option K) (View K C R) → Type 0
  Fact (split count) step found after = ⊤
  Fact draw step found after = DrawFact step m.me found after
  Fact (look_held book) step found after = LookFact k step m.me found after
  Fact (look_waits ticket) step found after = LookFact k step m.me found after
  Fact (post ticket place book) step found after = PostFact (k.history book) (k.refusals book) step m.me (word_in k book place) after
  Fact (leave posted ticket book) step found after = LeaveFact k step m.me (ticket + 1) after
  Fact (gather other w) step found after = ⊤
  Fact second_load step found after = SecondLoadFact step m.me found after
  Fact (glance place) step found after = GlanceFact k step m.me found after

  -- the seat learns the fact if this holds of it, and of the operands of the step
  abbrev pub MayLearn : Kind K C R → Step (Option K) → Type 0
  MayLearn (look_held book) step = (m.me.0.seat.phase ≡ Waiting m.core.served) × (m.me.1 ≡ []) × IsInSlot m.table book
  MayLearn (look_waits ticket) step = (m.me.0.seat.phase ≡ Waiting ticket) × (ticket ≢ m.core.served)
  MayLearn (post ticket place book) step = m.me.0.seat.phase ≡ Holding ticket
  MayLearn (leave posted ticket book) step = Holds ticket m.me.0.seat.phase × (m.me.1 ≡ (0, Some book) ∷ [])
  MayLearn (gather other w) step = other ≢ m.id
  MayLearn (glance place) step = step.word ≡ board_word place
  MayLearn _ step = ⊤

  -- The seat carries what its phase says, and a gathered one has seen the longer of its two histories. So the fact of the step decides the table after it.
  -- The fact of a glance doesn't: it holds of each legal history that continues the one that the seat had seen and shows the word.
  abbrev pub Decides : Kind K C R → Type 0
  Decides draw = m.me.1 ≡ []
  Decides (look_held book) = m.me.1 ≡ []
  Decides (look_waits ticket) = m.me.1 ≡ []
  Decides (post ticket place book) = m.me.1 ≡ (0, None) ∷ []
  Decides (leave posted ticket book) = m.me.1 ≡ (0, Some book) ∷ []
  Decides second_load = (m.me.1 ≡ []) × (m.me.0.seen ≡ longer m.me.0.one.seen m.me.0.two.seen)
  Decides _ = ⊥

  -- The seat is in the table after its step, and the fact holds of it and of the number that the step found.
  pub record HasFact (kind : Kind K C R) (step : Step (Option K)) : Type 0 where
    pub there : get_elem? (table_after kind).views m.id ≡ some (view_after kind)
    pub agreement : Fact kind step (found_in kind) (view_after kind, carried_after m.me.1 (act_of kind))

  -- A table that a step of this kind can leave: the operation on the word that has the fact. The seat has some view after it, and took or gave back what
  -- it could.
  pub record MayLeave (kind : Kind K C R) (step : Step (Option K)) (s : State (Option K) (View K C R)) : Type 0 where
    pub view : View K C R
    pub act : Act (Option K)
    pub valid : Valid m.table.homes m.me.1 act
    pub agreement : Fact kind step (found_in kind) (view, carried_after m.me.1 act)
    pub is : s ≡ stepped m.table (word_of kind) (number_after kind (found_in kind)) m.id m.me.1 view act

  -- the step can leave the table after it, and no other
  pub record LeavesOnly (kind : Kind K C R) (step : Step (Option K)) : Type 0 where
    pub may : MayLeave kind step (table_after kind)
    pub only : (t : State (Option K) (View K C R)) → MayLeave kind step t → t ≡ table_after kind
