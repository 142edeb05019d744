use Rattle.std.proofs.Common.{◌≡◌, ℕ, ◌<◌, true}
use mathlib.Core.Option.{some}
use lib.ListN.{get_elem?}
use Rattle.ticket_steps.specs.declared.seats.CoreSeat.{CoreSeat}
use Rattle.ticket_steps.specs.Seats.{is_present}
use Rattle.ticket_steps.proofs.core_steps.Core.seat_index.Given as goal

abbrev pub invariant-loop-at : goal.invariant-loop-at
invariant-loop-at g l = (k : ℕ) (p : CoreSeat) → k < l.at → get_elem? l.self.seats.items k ≡ some p → p.own ≡ l.own → is_present p.phase ≡ true → ⊥
