-- The part of passes, turns and holds that clauses see: their caller. It has its own number, the numbers for which it answers, the calls that it has
-- left and has made, and the history that it has seen.
use Rattle.std.specs.Prelude.{ℕ, ◌-◌, ◌^◌, [], ◌∷◌, true}
use Rattle.ticket_lock.specs.Callers.{Caller, caller}
use Rattle.ticket_lock.specs.Tokens.{seat_of, turn_of, hold_of, ticket_of}
use Rattle.check_sched.specs.declared.call.Call.{Call}
use Rattle.check_sched.specs.declared.call.Reply.{Reply}
use Rattle.check_book.specs.declared.book.Book.{Book}
use Rattle.check_desk.specs.declared.passes.Pass.{Pass}
use Rattle.check_desk.specs.declared.passes.Turn.{Turn}
use Rattle.check_desk.specs.declared.passes.Hold.{Hold}

abbrev pub pass_of : Pass → Caller Call Reply
pass_of pass = seat_of pass.seat

abbrev pub turn_caller : Turn → Caller Call Reply
turn_caller turn = turn_of turn.turn

abbrev pub hold_caller : Hold → Caller Call Reply
hold_caller hold = hold_of hold.hold

-- the ticket with which a turn waits: the number of calls that end before its own
abbrev pub drawn_ticket : Turn → ℕ
drawn_ticket turn = ticket_of turn.turn

-- the book that a holder has
abbrev pub held_book : Hold → Book
held_book hold = hold.book

-- the number of calls that each pass brings if the program names no other number, and the most that it can bring
abbrev pub opening_calls : ℕ
opening_calls = 2 ^ 32 - 1

-- the pass of this number as a desk hands it out with this many calls; it answers for itself, has made no call and has seen nothing
abbrev pub new_pass_with : ℕ → ℕ → Caller Call Reply
new_pass_with calls number = caller number (number ∷ []) calls 0 true []

-- the same, with as many calls as a pass can bring
abbrev pub new_pass : ℕ → Caller Call Reply
new_pass number = new_pass_with opening_calls number
