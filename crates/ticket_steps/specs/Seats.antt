-- The seats of the core.
use Rattle.std.specs.Prelude.{◌≡◌, ℕ, ◌+◌, ◌-◌, ◌*◌, List, [], ◌∷◌, ◌++◌, length, take, drop, Bool, true, false}
use mathlib.Core.Option.{some}
use lib.ListN.{get_elem?}
use Rattle.ticket_steps.specs.declared.seats.CoreSeat.{CoreSeat}
use Rattle.ticket_steps.specs.declared.seats.Phase.{Phase}
use Rattle.ticket_steps.specs.declared.seats.Phase.TheVariants.{Idle, Waiting, Holding, Posted, Gone}
use Rattle.ticket_steps.specs.Sums.{total, occurrences}

-- the ticket of a seat that waits or holds; no other seat has one
abbrev pub tickets_of : Phase → List ℕ
tickets_of Idle = []
tickets_of (Waiting ticket) = ticket ∷ []
tickets_of (Holding ticket) = ticket ∷ []
tickets_of (Posted ticket) = ticket ∷ []
tickets_of Gone = []

-- 1 for a seat that holds, otherwise 0; a seat that has posted its call holds until it leaves
abbrev pub holder_count_of : Phase → ℕ
holder_count_of (Holding ticket) = 1
holder_count_of (Posted ticket) = 1
holder_count_of _ = 0

-- 1 for a seat that has posted its call and hasn't left yet, otherwise 0
abbrev pub poster_count_of : Phase → ℕ
poster_count_of (Posted ticket) = 1
poster_count_of _ = 0

-- a seat in this phase has this ticket, and holds
abbrev pub Holds : ℕ → Phase → Type 0
Holds ticket phase = (holder_count_of phase ≡ 1) × (tickets_of phase ≡ ticket ∷ [])

-- whether a seat exists: it was not gathered into another
abbrev pub is_present : Phase → Bool
is_present Idle = true
is_present (Waiting ticket) = true
is_present (Holding ticket) = true
is_present (Posted ticket) = true
is_present Gone = false

abbrev pub seat : ℕ → List ℕ → Phase → ℕ → ℕ → Bool → CoreSeat
seat own numbers phase left calls fresh = record { own = own; numbers = numbers; phase = phase; left = left; calls = calls; fresh = fresh }

-- a seat that has never drawn, with all draws of its numbers
abbrev pub fresh_seat : ℕ → ℕ → List ℕ → ℕ → CoreSeat
fresh_seat draws own numbers calls = seat own numbers Idle (length numbers * draws) calls true

-- the remains of a seat that was gathered into another
abbrev pub gone_seat : CoreSeat
gone_seat = seat 0 [] Gone 0 0 false

-- a fresh seat without this many of its last numbers
abbrev pub seat_after_split : ℕ → ℕ → CoreSeat → CoreSeat
seat_after_split draws count s = fresh_seat draws s.own (take (length s.numbers - count) s.numbers) s.calls

-- the seat that gets these numbers
abbrev pub other_seat : ℕ → ℕ → CoreSeat → CoreSeat
other_seat draws count s = fresh_seat draws (s.own + (length s.numbers - count)) (drop (length s.numbers - count) s.numbers) 0

abbrev pub waiting_seat : ℕ → CoreSeat → CoreSeat
waiting_seat ticket s = seat s.own s.numbers (Waiting ticket) (s.left - 1) s.calls false

abbrev pub holding_seat : ℕ → CoreSeat → CoreSeat
holding_seat ticket s = seat s.own s.numbers (Holding ticket) s.left s.calls s.fresh

-- a holder that has posted its call
abbrev pub posted_seat : ℕ → CoreSeat → CoreSeat
posted_seat ticket s = seat s.own s.numbers (Posted ticket) s.left s.calls s.fresh

-- a holder that has left
abbrev pub seat_after_leave : CoreSeat → CoreSeat
seat_after_leave s = seat s.own s.numbers Idle s.left (s.calls + 1) s.fresh

-- a seat with the numbers and calls of another; the other's draws are lost
abbrev pub gathered_seat : CoreSeat → CoreSeat → CoreSeat
gathered_seat s other = seat s.own (s.numbers ++ other.numbers) Idle s.left (s.calls + other.calls) false

-- the number of seats with this ticket
abbrev pub tickets_at : ℕ → List CoreSeat → ℕ
tickets_at ticket seats = total (λ s. occurrences ticket (tickets_of s.phase)) seats

-- the number of seats that hold
abbrev pub holders : List CoreSeat → ℕ
holders seats = total (λ s. holder_count_of s.phase) seats

-- the number of seats that have posted a call and haven't left yet
abbrev pub posters : List CoreSeat → ℕ
posters seats = total (λ s. poster_count_of s.phase) seats

-- the number of seats that answer for this number
abbrev pub answering : ℕ → List CoreSeat → ℕ
answering number seats = total (λ s. occurrences number s.numbers) seats

-- the seat p, with this own number, is at the place i of the list, in this phase
abbrev pub IsSeatAt : List CoreSeat → ℕ → ℕ → Phase → CoreSeat → Type 0
IsSeatAt seats i own phase p = (get_elem? seats i ≡ some p) × (p.own ≡ own) × (p.phase ≡ phase)

-- some existing seat has this own number
abbrev pub HasSeat : List CoreSeat → ℕ → Type 0
HasSeat seats own = (i : ℕ) × (p : CoreSeat) × (get_elem? seats i ≡ some p) × (p.own ≡ own) × (is_present p.phase ≡ true)
