-- The board: a word for each object of a state, for readers that don't hold the lock.
use Rattle.std.specs.Prelude.{ℕ, List, length, map, Option, Some, None}
use Rattle.std.specs.List.{range_with_len}
use Rattle.check_states.specs.Board.{word_of_standing}
use Rattle.check_sched.specs.declared.call.Call.{Call}
use Rattle.check_sched.specs.declared.call.Call.TheVariants as call
use Rattle.check_sched.specs.declared.call.Reply.{Reply}
use Rattle.check_sched.specs.declared.call.Reply.TheVariants as reply
use Rattle.check_sched.specs.State.{State, standing_at}
use Rattle.check_sched.specs.Step.{step}

-- the words of the standings of all objects, in the order of their numbers
abbrev pub board_of : State → List ℕ
board_of s = map (λ number. word_of_standing (standing_at s.standings number)) (range_with_len 0 (length s.objects))

-- The place at which an answered call is posted: the object's number for a report that was answered by the object's standing. No other call
-- is posted.
abbrev pub slot_of_reply : Call → Reply → Option ℕ
slot_of_reply (call.Report object run code) (reply.Standing standing changed next) = Some object
slot_of_reply c r = None

-- the place at which a call is posted if it is made now
abbrev pub slot_of_call : State → Call → Option ℕ
slot_of_call s c = slot_of_reply c (step s c).1
