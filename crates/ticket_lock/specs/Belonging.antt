-- The fact that a seat or a turn belongs to a lock has no parts. So a struct that stores both can carry the fact as a ghost field.
use Rattle.std.specs.Prelude.{ℕ, Some, refl}
use Rattle.std.specs.Coded.{Coded, Coded-set, code_by, coded×, coded_option, coded_ℕ, ×_prop}
use Rattle.atomic_table.specs.Seated.{table_id_coded}
use Rattle.ticket_steps.specs.declared.books.Kept.{Ghosts}
use Rattle.ticket_lock.specs.declared.lock.TicketLock.{TicketLock}
use Rattle.ticket_lock.specs.declared.tokens.Seat.{Seat}
use Rattle.ticket_lock.specs.declared.tokens.Turn.{Turn}
use Rattle.ticket_lock.specs.declared.views.Start.{Start}
use Rattle.ticket_lock.specs.Tokens.{start_of, IsSeatOf, IsTurnOf}

-- how a lock was opened, as the tuple of its fields
abbrev pub start_coded : {K : Type 0} → Coded K → Coded (Start K)
start_coded {K} book =
    code_by (K × (ℕ × ℕ)) (coded× book (coded× coded_ℕ coded_ℕ)) (λ s. (s.book, (s.numbers, s.draws)))
    (λ p. record { book = p.0; numbers = p.1.0; draws = p.1.1 }) (λ _. refl)

module _ {K C R : Type 0} {G : Ghosts K C R} (book : Coded K) where
  pub IsSeatOf-prop : (lock : TicketLock K C R G) (seat : Seat K C R G) → IsProp (IsSeatOf lock seat)
  IsSeatOf-prop lock seat =
      ×_prop (Coded-set table_id_coded seat.table_seat.table_id lock.table.shared.table_id)
      (Coded-set (coded_option (start_coded book)) seat.table_seat.me.0.start (Some (start_of lock)))

  pub IsTurnOf-prop : (lock : TicketLock K C R G) (turn : Turn K C R G) → IsProp (IsTurnOf lock turn)
  IsTurnOf-prop lock turn =
      ×_prop (Coded-set table_id_coded turn.table_seat.table_id lock.table.shared.table_id)
      (Coded-set (coded_option (start_coded book)) turn.table_seat.me.0.start (Some (start_of lock)))
