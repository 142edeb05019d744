-- The effect of a try of one of the six calls. It makes the call at the end of a history that the pass sees, or leaves the pass waiting, or does
-- nothing.
use Rattle.std.specs.Prelude.{◌≡◌, ◌≢◌, ◌<◌, ◌≤◌, ℕ, length, List}
use Rattle.core.specs.Mem.{manually_drop_value}
use Rattle.ticket_steps.specs.declared.books.Entry.{Entry}
use Rattle.ticket_lock.specs.Callers.{Caller as Seen, caller_after_draw, caller_after_call}
use Rattle.ticket_lock.specs.Views.{Follows}
use Rattle.check_sched.specs.declared.call.Call.{Call}
use Rattle.check_sched.specs.declared.call.Reply.{Reply}
use Rattle.check_desk.specs.declared.desk.Answer.{Answer}
use Rattle.check_desk.specs.declared.desk.Answer.TheVariants as answer
use Rattle.check_desk.specs.declared.desk.Desk.{Desk}
use Rattle.check_desk.specs.declared.passes.Pass.{Pass}
use Rattle.check_desk.specs.declared.passes.Turn.{Turn}
use Rattle.check_desk.specs.Desks.{desk_opening, passes_of, caller_after_reply}
use Rattle.check_desk.specs.Passes.{drawn_ticket, pass_of, turn_caller}
use Rattle.nagsched_handles.specs.declared.pass_state.PassState.{PassState}
use Rattle.nagsched_handles.specs.declared.pass_state.PassState.TheVariants as state
use Rattle.nagsched_handles.specs.declared.pass_state.Step.{Step}
use Rattle.nagsched_handles.specs.declared.pass_state.Step.TheVariants as tried

-- the outcome of a try whose call got this answer
abbrev pub step_of : Answer → Step
step_of (answer.Reply reply) = tried.Replied reply
step_of answer.NoMemory = tried.NoMemory
step_of answer.Spent = tried.Spent

-- The call was made when the turn came. The history before it begins with all that the pass had seen, and has nothing new of its numbers. After it comes the
-- entry, under the pass's own number.
pub record HasMadeCall (call : Call) (reply : Reply) (waiting after : Seen Call Reply) : Type 0 where
  pub history : List (Entry Call Reply)
  pub follows : Follows waiting.numbers waiting.seen history
  pub after_is : after ≡ caller_after_reply call reply history waiting

-- Out of memory for its entry: nothing of the pass's numbers is new, and the history has reached the room.
pub record IsOutOfMemoryTry (room : ℕ) (waiting after : Seen Call Reply) : Type 0 where
  pub follows : Follows waiting.numbers waiting.seen after.seen
  pub after_is : after ≡ caller_after_call after.seen waiting
  pub full : room ≤ length after.seen

-- The turn hasn't come: the pass has the same ticket, for this call. This never happens to a pass that answers for all of the desk's passes.
pub record HasWaited (desk : Desk) (call : Call) (turn again : Turn) (asked : Call) : Type 0 where
  pub same : turn_caller again ≡ turn_caller turn
  pub ticket : drawn_ticket again ≡ drawn_ticket turn
  pub asked_is : asked ≡ call
  pub others : length (turn_caller turn).numbers < passes_of desk

-- the state after a look of a pass that waits
abbrev pub HasLooked : Desk → Call → Turn → Step → PassState → Type 0
HasLooked desk call turn (tried.Replied reply) (state.Resting pass) = HasMadeCall call reply (turn_caller turn) (pass_of pass)
HasLooked desk call turn tried.NoMemory (state.Resting pass) = IsOutOfMemoryTry (desk_opening desk).room (turn_caller turn) (pass_of pass)
HasLooked desk call turn tried.NotYet (state.Waiting again asked) = HasWaited desk call turn (manually_drop_value again) asked
HasLooked desk call turn made after = ⊥

-- the state after a try of a pass at rest: it takes a ticket by one of its calls, and looks; without a call left it does nothing
abbrev pub HasTriedAtRest : Desk → Call → Pass → Step → PassState → Type 0
HasTriedAtRest desk call pass tried.Spent after = ((pass_of pass).left ≡ 0) × (after ≡ state.Resting pass)
HasTriedAtRest desk call pass made after =
    ((pass_of pass).left ≢ 0) × ((turn : Turn) × (turn_caller turn ≡ caller_after_draw (pass_of pass)) × HasLooked desk call turn made after)

-- the state after a try: a pass that waits looks again, if it is the same call, or does nothing
abbrev pub HasAdvanced : Desk → Call → PassState → Step → PassState → Type 0
HasAdvanced desk call (state.Resting pass) made after = HasTriedAtRest desk call pass made after
HasAdvanced desk call (state.Waiting turn asked) tried.OtherWaits after = (asked ≢ call) × (after ≡ state.Waiting turn asked)
HasAdvanced desk call (state.Waiting turn asked) made after = (asked ≡ call) × HasLooked desk call (manually_drop_value turn) made after
HasAdvanced desk call state.Gone made after = (made ≡ tried.OtherWaits) × (after ≡ state.Gone)

-- a pass can continue with the call: it rests with calls left, or waits for the turn of this call
abbrev pub MayContinue : Call → PassState → Type 0
MayContinue call (state.Resting pass) = (pass_of pass).left ≢ 0
MayContinue call (state.Waiting turn asked) = asked ≡ call
MayContinue call state.Gone = ⊥

-- the turn of a pass that continues: at rest it takes a ticket by one of its calls, and waiting it has its ticket
abbrev pub HasTurn : PassState → Turn → Type 0
HasTurn (state.Resting pass) turn = turn_caller turn ≡ caller_after_draw (pass_of pass)
HasTurn (state.Waiting again asked) turn = turn ≡ manually_drop_value again
HasTurn state.Gone turn = ⊥
