-- The parts of a desk that clauses see: how it was opened, its passes, turns and holds, and the effect of a call.
use Rattle.std.specs.Prelude.{◌≡◌, ℕ, ◌+◌, ◌<◌, ◌≤◌, ⊤, List, [], ◌∷◌, ◌++◌, length}
use Rattle.ticket_steps.specs.declared.books.Entry.{Entry}
use Rattle.ticket_steps.specs.History.{entry, replay, IsLegal}
use Rattle.ticket_lock.specs.Callers.{Caller, caller_after_draw, caller_after_call}
use Rattle.ticket_lock.specs.Views.{Follows}
use Rattle.ticket_lock.specs.Tokens.{start_of, IsSeatOf, IsTurnOf, IsHoldOf}
use Rattle.check_objects.specs.Configuration.{object_count}
use Rattle.check_states.specs.declared.standing.Standing.{Standing}
use Rattle.check_sched.specs.declared.call.Call.{Call}
use Rattle.check_sched.specs.declared.call.Reply.{Reply}
use Rattle.check_sched.specs.State.{standing_at}
use Rattle.check_book.specs.BookState.{BookState, book_step}
use Rattle.check_book.specs.Books.{opening_of}
use Rattle.check_desk.specs.declared.desk.Answer.{Answer}
use Rattle.check_desk.specs.declared.desk.Answer.TheVariants as answer
use Rattle.check_desk.specs.declared.desk.Desk.{Desk}
use Rattle.check_desk.specs.declared.desk.Poll.{Poll}
use Rattle.check_desk.specs.declared.desk.Poll.TheVariants as found
use Rattle.check_desk.specs.declared.passes.Pass.{Pass}
use Rattle.check_desk.specs.declared.passes.Turn.{Turn}
use Rattle.check_desk.specs.declared.passes.Hold.{Hold}
use Rattle.check_desk.specs.Passes.{held_book, opening_calls, pass_of, new_pass_with}

-- the state of the book with which the desk was opened: the setup and the start of its scheduler, and its room
abbrev pub desk_opening : Desk → BookState
desk_opening desk = opening_of (start_of desk.lock).book

-- the number of passes
abbrev pub passes_of : Desk → ℕ
passes_of desk = (start_of desk.lock).numbers

-- the number of calls that each pass brought
abbrev pub calls_of : Desk → ℕ
calls_of desk = (start_of desk.lock).draws

-- the number of objects in its setup
abbrev pub objects_of : Desk → ℕ
objects_of desk = object_count (desk_opening desk).sched.setup

-- the standing of the object with this number after these calls, made one after another, from the opening on
abbrev pub standing_after : Desk → List (Entry Call Reply) → ℕ → Standing
standing_after desk history number = standing_at (replay book_step (desk_opening desk) history).sched.standings number

-- the pass is of this desk; the same for a turn and a hold
abbrev pub IsPassOf : Desk → Pass → Type 0
IsPassOf desk pass = IsSeatOf desk.lock pass.seat

abbrev pub IsWaitingAt : Desk → Turn → Type 0
IsWaitingAt desk turn = IsTurnOf desk.lock turn.turn

abbrev pub IsHolderAt : Desk → Hold → Type 0
IsHolderAt desk hold = IsHoldOf desk.lock hold.hold × (opening_of (held_book hold) ≡ desk_opening desk)

-- a history of the desk: each reply is the scheduler's at its place
abbrev pub IsHistoryOf : Desk → List (Entry Call Reply) → Type 0
IsHistoryOf desk history = IsLegal book_step (desk_opening desk) history

-- the passes of a desk as it hands them out with this many calls each, from this number on
abbrev pub AreNewPassesWith : ℕ → Desk → ℕ → List Pass → Type 0
AreNewPassesWith calls desk number [] = ⊤
AreNewPassesWith calls desk number (pass ∷ passes) =
    IsPassOf desk pass × (pass_of pass ≡ new_pass_with calls number) × AreNewPassesWith calls desk (number + 1) passes

-- the same, with as many calls as a pass can bring
abbrev pub AreNewPasses : Desk → ℕ → List Pass → Type 0
AreNewPasses desk number passes = AreNewPassesWith opening_calls desk number passes

-- ---- answers

-- the two outcomes of a poll
abbrev pub MatchPoll : Poll → (Hold → Type 0) → (Turn → Type 0) → Type 0
MatchPoll (found.Mine hold) P Q = P hold
MatchPoll (found.NotYet turn) P Q = Q turn

-- the three answers of a call
abbrev pub MatchAnswer : Answer → (Reply → Type 0) → Type 0 → Type 0 → Type 0
MatchAnswer (answer.Reply reply) P Q R = P reply
MatchAnswer answer.NoMemory P Q R = Q
MatchAnswer answer.Spent P Q R = R

-- the caller after a call with this reply, if this was the history before it: one more entry, under the caller's own number
abbrev pub caller_after_reply : Call → Reply → List (Entry Call Reply) → Caller Call Reply → Caller Call Reply
caller_after_reply call reply history c = caller_after_call (history ++ entry c.own call reply ∷ []) c

-- A whole call with this reply. The history before it begins with all that the caller had seen, and the rest has no entries of the caller's numbers.
-- The call's entry was added to that history.
pub record HasRecorded (call : Call) (reply : Reply) (before after : Caller Call Reply) : Type 0 where
  pub history : List (Entry Call Reply)
  pub follows : Follows before.numbers before.seen history
  pub after_is : after ≡ caller_after_reply call reply history (caller_after_draw before)
  pub has_left : 0 < before.left

-- A whole call without memory for its entry. There are no new entries of the caller's numbers, and the history has reached the room.
pub record HasNoMemory (room : ℕ) (before after : Caller Call Reply) : Type 0 where
  pub follows : Follows before.numbers before.seen after.seen
  pub after_is : after ≡ caller_after_call after.seen (caller_after_draw before)
  pub full : room ≤ length after.seen
  pub has_left : 0 < before.left
