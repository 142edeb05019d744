-- The recorded calls of a schedule, each with the draw of its ticket, and the seat that holds next.
use Rattle.std.specs.Prelude.{◌≡◌, ◌⊎◌, ℕ, List, [], ◌∷◌, ◌++◌, length}
use mathlib.Core.Option.{some}
use lib.ListN.{get_elem?}
use Rattle.ticket_steps.specs.declared.books.Kept.{Ghosts}
use Rattle.ticket_steps.specs.declared.seats.CoreSeat.{CoreSeat}
use Rattle.ticket_steps.specs.declared.seats.Phase.TheVariants.{Waiting}
use Rattle.ticket_steps.specs.declared.events.Event.TheVariants.{Look}
use Rattle.ticket_steps.specs.CoreStates.{CoreState}
use Rattle.ticket_steps.specs.Happenings.{Happening, drew, held, recordings, calls_ended_by, IsOfEvent, Moves}
use Rattle.ticket_steps.specs.History.{entry}
use Rattle.ticket_steps.specs.Seats.{Holds}

-- a call that was recorded, from the draw of its ticket on, as a part of a list of happenings
pub record RecordedCall (C R : Type 0) : Type 0 where
  -- the number of the seat, and its ticket
  pub own : ℕ
  pub ticket : ℕ
  -- the call and its reply
  pub call : C
  pub reply : R
  -- what happened before the seat drew, between the draw and the post or leave that recorded the call, and after that
  pub before : List (Happening C R)
  pub between : List (Happening C R)
  pub recording : Happening C R
  pub after : List (Happening C R)

module _ {C R : Type 0} where
  -- what happened before the call was recorded
  abbrev pub until_recording : RecordedCall C R → List (Happening C R)
  until_recording made = made.before ++ drew made.own made.ticket ∷ made.between

  -- the call is a part of these happenings: the seat drew, and before it left, its call was recorded
  pub record IsRecordedIn (happenings : List (Happening C R)) (made : RecordedCall C R) : Type 0 where
    pub parts : happenings ≡ until_recording made ++ made.recording ∷ made.after
    pub recorded : recordings (made.recording ∷ []) ≡ entry made.own made.call made.reply ∷ []
    pub not_left : calls_ended_by made.own made.between ≡ 0

  -- the place of its draw in the happenings
  abbrev pub drawn_at : RecordedCall C R → ℕ
  drawn_at made = length made.before

  -- the place of its entry in the history
  abbrev pub entry_at : RecordedCall C R → ℕ
  entry_at made = length (recordings (until_recording made))

module _ {K C R : Type 0} (k : Ghosts K C R) (draws : ℕ) where
  -- a waiting seat holds at its next look: its ticket is the number served, it can look, and it holds after each look that it can make
  pub record HasNextLook (c : CoreState k.State C R) (p : CoreSeat) : Type 0 where
    pub waits : p.phase ≡ Waiting c.served
    pub can_look : (d : CoreState k.State C R) × Moves k draws c (held p.own) d
    pub holds : (h : Happening C R) (d : CoreState k.State C R) → IsOfEvent (Look p.own) h → Moves k draws c h d → h ≡ held p.own

  -- some seat holds, or some seat holds at its next look
  abbrev pub GoesOn : CoreState k.State C R → Type 0
  GoesOn c = (i : ℕ) × (p : CoreSeat) × (get_elem? c.seats i ≡ some p) × (Holds c.served p.phase ⊎ HasNextLook c p)
