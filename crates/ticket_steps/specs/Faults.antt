-- The faults of an event in a core state, and the effect of one step of the core.
use Rattle.std.specs.Prelude.{◌≡◌, ◌≢◌, ◌↔◌, ℕ, ◌<◌, List, [], ◌∷◌, length, true, IfOk, OnErr, Result, Err, Some, None}
use Rattle.ticket_steps.specs.declared.books.Kept.{Ghosts}
use Rattle.ticket_steps.specs.declared.seats.CoreSeat.{CoreSeat}
use Rattle.ticket_steps.specs.declared.seats.Phase.TheVariants.{Idle, Waiting, Holding, Posted}
use Rattle.ticket_steps.specs.declared.events.Event.{Event}
use Rattle.ticket_steps.specs.declared.events.Event.TheVariants.{Split, Draw, Look, Post, Leave, Glance, Gather}
use Rattle.ticket_steps.specs.declared.events.Seen.{Seen}
use Rattle.ticket_steps.specs.declared.events.Fault.{Fault}
use Rattle.ticket_steps.specs.declared.events.Fault.TheVariants.{NoSeat, Phase, Spent}
use Rattle.ticket_steps.specs.CoreStates.{CoreState}
use Rattle.ticket_steps.specs.Happenings.{Happening, readout, IsOfEvent, Moves}
use Rattle.ticket_steps.specs.Seats.{IsSeatAt, HasSeat}

module _ {C : Type 0} where
  -- the seats that an event names exist
  abbrev pub NamesSeats : List CoreSeat → Event C → Type 0
  NamesSeats seats (Split own count) = HasSeat seats own
  NamesSeats seats (Draw own) = HasSeat seats own
  NamesSeats seats (Look own) = HasSeat seats own
  NamesSeats seats (Post own call) = HasSeat seats own
  NamesSeats seats (Leave own call) = HasSeat seats own
  NamesSeats seats (Glance own place) = HasSeat seats own
  NamesSeats seats (Gather own other) = HasSeat seats own × HasSeat seats other

  -- an event fits the phases of its seats; a split also needs a fresh seat and a count in range. A leave brings a call exactly if its seat has posted none
  abbrev pub FitsPhases : List CoreSeat → Event C → Type 0
  FitsPhases seats (Split own count) = (i : ℕ) × (p : CoreSeat) × IsSeatAt seats i own Idle p × (p.fresh ≡ true) × (0 < count) × (count < length p.numbers)
  FitsPhases seats (Draw own) = (i : ℕ) × (p : CoreSeat) × IsSeatAt seats i own Idle p
  FitsPhases seats (Look own) = (i : ℕ) × (p : CoreSeat) × (ticket : ℕ) × IsSeatAt seats i own (Waiting ticket) p
  FitsPhases seats (Post own call) = (i : ℕ) × (p : CoreSeat) × (ticket : ℕ) × IsSeatAt seats i own (Holding ticket) p
  FitsPhases seats (Leave own (Some call)) = (i : ℕ) × (p : CoreSeat) × (ticket : ℕ) × IsSeatAt seats i own (Holding ticket) p
  FitsPhases seats (Leave own None) = (i : ℕ) × (p : CoreSeat) × (ticket : ℕ) × IsSeatAt seats i own (Posted ticket) p
  FitsPhases seats (Glance own place) = (i : ℕ) × (p : CoreSeat) × IsSeatAt seats i own Idle p
  FitsPhases seats (Gather own other) = (i : ℕ) × (p : CoreSeat) × (k : ℕ) × (q : CoreSeat) × IsSeatAt seats i own Idle p × IsSeatAt seats k other Idle q × (own ≢ other)

  -- a draw has a draw left
  abbrev pub HasDraw : List CoreSeat → Event C → Type 0
  HasDraw seats (Split own count) = Unit {0}
  HasDraw seats (Draw own) = (i : ℕ) × (p : CoreSeat) × IsSeatAt seats i own Idle p × (0 < p.left)
  HasDraw seats (Look own) = Unit {0}
  HasDraw seats (Post own call) = Unit {0}
  HasDraw seats (Leave own call) = Unit {0}
  HasDraw seats (Glance own place) = Unit {0}
  HasDraw seats (Gather own other) = Unit {0}

module _ {K C R : Type 0} (k : Ghosts K C R) where
  -- a posted call has a place on the board, a call that a leave brings has no place, and a glance is at the place of a word
  abbrev pub FitsBoard : k.State → Event C → Type 0
  FitsBoard state (Split own count) = Unit {0}
  FitsBoard state (Draw own) = Unit {0}
  FitsBoard state (Look own) = Unit {0}
  FitsBoard state (Post own call) = (place : ℕ) × (k.posts_at state call ≡ Some place)
  FitsBoard state (Leave own (Some call)) = k.posts_at state call ≡ None
  FitsBoard state (Leave own None) = Unit {0}
  FitsBoard state (Glance own place) = place < length (k.board state)
  FitsBoard state (Gather own other) = Unit {0}

  -- an event fits the phases of its seats, and the board
  abbrev pub Fits : CoreState k.State C R → Event C → Type 0
  Fits b event = FitsPhases b.seats event × FitsBoard b.book.state event

  -- the fault of an event: the first that applies, in the order of this definition
  abbrev pub IsFault : CoreState k.State C R → Event C → Fault → Type 0
  IsFault b event NoSeat = NamesSeats b.seats event → ⊥
  IsFault b event Phase = NamesSeats b.seats event × (Fits b event → ⊥)
  IsFault b event Spent = Fits b event × (HasDraw b.seats event → ⊥)

  module _ (draws : ℕ) where
    -- an event that fits the board leads from one core state to another, and shows this
    abbrev pub Shows : CoreState k.State C R → Event C → Seen R → CoreState k.State C R → Type 0
    Shows b event seen c = (h : Happening C R) × IsOfEvent event h × (seen ≡ readout h) × Moves k draws b h c × FitsBoard b.book.state event

    -- events lead from one core state to another: each fits the board at its point, for any results that are shown
    abbrev pub LeadsBy : CoreState k.State C R → List (Event C) → CoreState k.State C R → Type 0
    LeadsBy b [] c = c ≡ b
    LeadsBy b (event ∷ events) c = (seen : Seen R) × (d : CoreState k.State C R) × Shows b event seen d × LeadsBy d events c

    -- one step: an event is shown, or it has a fault and nothing changes
    pub record Steps (b : CoreState k.State C R) (event : Event C) (result : Result (Seen R) Fault) (c : CoreState k.State C R) : Type 0 where
      pub readout : IfOk result (λ seen. Shows b event seen c)
      pub fault : (f : Fault) → (result ≡ Err f) ↔ IsFault b event f
      pub same : OnErr result (c ≡ b)
