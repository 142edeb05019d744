-- The facts of every core state to which a schedule leads.
use Rattle.std.specs.Prelude.{◌≡◌, ℕ, ◌+◌, ◌-◌, ◌*◌, ◌<◌, ◌≤◌, [], length, true, false, cond}
use mathlib.Core.Option.{some}
use lib.ListN.{get_elem?}
use Rattle.ticket_steps.specs.declared.seats.CoreSeat.{CoreSeat}
use Rattle.ticket_steps.specs.CoreStates.{CoreState, IsCounted}
use Rattle.ticket_steps.specs.Seats.{Holds, is_present, tickets_of, tickets_at, answering}
use Rattle.ticket_steps.specs.Sums.{total, occurrences, once_below, numbers_from}

-- the facts of each seat when this number is served
pub record IsSeat (draws served : ℕ) (s : CoreSeat) : Type 0 where
  -- a holder's ticket is the number served
  pub holder : (ticket : ℕ) → Holds ticket s.phase → ticket ≡ served
  -- a seat answers for its own number
  pub own : is_present s.phase ≡ true → 0 < occurrences s.own s.numbers
  -- a fresh seat has a range of numbers and all their draws
  pub whole : s.fresh ≡ true → (s.numbers ≡ numbers_from s.own (length s.numbers)) × (s.left ≡ length s.numbers * draws)
  -- a seat that was gathered into another has nothing left
  pub gone_seat : is_present s.phase ≡ false → (s.numbers ≡ []) × (s.calls ≡ 0) × (s.left ≡ 0) × (s.fresh ≡ false)

-- the number of seats that can still be split off a seat
abbrev pub spare_seats : CoreSeat → ℕ
spare_seats s = cond s.fresh (length s.numbers - 1) 0

-- the facts of every core state, in numbers
pub record IsLawful {S C R : Type 0} (numbers draws : ℕ) (c : CoreState S C R) : Type 0 where
  pub each : (i : ℕ) (s : CoreSeat) → get_elem? c.seats i ≡ some s → IsSeat draws c.served s
  -- each ticket below the next one was left, or one seat has it; no seat has any other ticket
  pub tickets : (t : ℕ) → tickets_at t c.seats + once_below t c.served ≡ once_below t c.next
  -- as many seats have a ticket as tickets were drawn and not left
  pub queue : c.next ≡ c.served + total (λ (s : CoreSeat). length (tickets_of s.phase)) c.seats
  -- exactly one seat answers for each number
  pub numbered : (n : ℕ) → answering n c.seats ≡ once_below n numbers
  pub count : total (λ (s : CoreSeat). length s.numbers) c.seats ≡ numbers
  pub counted : IsCounted c
  pub calls : total (λ (s : CoreSeat). s.calls) c.seats ≡ c.served
  pub supply : c.next + total (λ (s : CoreSeat). s.left) c.seats ≤ numbers * draws
  pub places : length c.seats + total spare_seats c.seats ≤ numbers
