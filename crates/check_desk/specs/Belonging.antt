-- The fact that a pass or a turn belongs to a desk has no parts. So a struct that stores both can carry the fact as a ghost field.
use Rattle.check_book.specs.contracts.book.Book.{the_row as book_row}
use Rattle.ticket_lock.specs.Belonging.{IsSeatOf-prop, IsTurnOf-prop}
use Rattle.check_desk.specs.declared.desk.Desk.{Desk}
use Rattle.check_desk.specs.declared.passes.Pass.{Pass}
use Rattle.check_desk.specs.declared.passes.Turn.{Turn}
use Rattle.check_desk.specs.Desks.{IsPassOf, IsWaitingAt}

pub IsPassOf-prop : (desk : Desk) (pass : Pass) → IsProp (IsPassOf desk pass)
IsPassOf-prop desk pass = IsSeatOf-prop book_row.coded desk.lock pass.seat

pub IsWaitingAt-prop : (desk : Desk) (turn : Turn) → IsProp (IsWaitingAt desk turn)
IsWaitingAt-prop desk turn = IsTurnOf-prop book_row.coded desk.lock turn.turn
