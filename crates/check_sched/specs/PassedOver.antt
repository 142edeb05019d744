-- The objects that takes choose while another object waits, by a history.
use Rattle.std.specs.Prelude.{ℕ, ◌≡◌, ◌==◌, ◌&&◌, Bool, true, false, not, List, [], ◌∷◌, Option, Some, None, nat_le, nat_lt, if◌then◌else◌}
use Rattle.std.specs.List.{cons_option, list_any}
use Rattle.std.specs.Option.{option_map_or}
use Rattle.ticket_steps.specs.declared.books.Entry.{Entry}
use Rattle.check_sched.specs.declared.call.Call.{Call}
use Rattle.check_sched.specs.declared.call.Call.TheVariants as call
use Rattle.check_sched.specs.declared.call.Reply.{Reply}
use Rattle.check_sched.specs.declared.call.Reply.TheVariants as reply
use Rattle.check_saved_state.specs.Scheduling.{Scheduling}
use Rattle.check_sched.specs.Scheduling.{candidate_time}
use Rattle.check_sched.specs.State.{State, scheduling_at}
use Rattle.check_sched.specs.Step.{is_startable, step}

-- the object that the reply says was chosen: its check begins, or it is put off
abbrev pub chosen_by : Reply → Option ℕ
chosen_by (reply.Taken object run) = Some object
chosen_by (reply.PutOff object until) = Some object
chosen_by other = None

-- whether the object waits for a time that has come at this moment
abbrev pub is_due : ℕ → Scheduling → Bool
is_due now o = option_map_or (λ time. nat_le time now) (candidate_time o) false

-- whether the call is a take that can choose the object with this number: the object is due, and its check may begin
abbrev pub can_choose : ℕ → State → Call → Bool
can_choose number s (call.Take now) = is_due now (scheduling_at s.objects number) && is_startable s number
can_choose number s other = false

-- the objects that the takes of a history chose, of those takes that could choose the object with this number
abbrev pub choices_with : ℕ → State → List (Entry Call Reply) → List ℕ
choices_with number s [] = []
choices_with number s (e ∷ es) =
    cons_option (if can_choose number s e.call then chosen_by e.reply else None) (choices_with number (step s e.call).0 es)

-- whether an object is among those chosen
abbrev pub is_among : ℕ → List ℕ → Bool
is_among number chosen = list_any (λ n. n == number) chosen

-- the object with this number waits for this time: it is its next time, and the object isn't being checked
abbrev pub WaitsFor : ℕ → ℕ → State → Type 0
WaitsFor number time s = ((scheduling_at s.objects number).next ≡ Some time) × ((scheduling_at s.objects number).run ≡ None)

-- Whether the call lets no object in before the one with this number, which waits for this time. An abandoned object is due at the moment of the call,
-- and a rescheduled one at any time, so these are to be later. The object itself isn't to be rescheduled.
abbrev pub lets_none_in : ℕ → ℕ → Call → Bool
lets_none_in number time (call.Abandon object run now) = nat_lt time now
lets_none_in number time (call.Reschedule object to forced) = nat_lt time to && not (object == number)
lets_none_in number time other = true
