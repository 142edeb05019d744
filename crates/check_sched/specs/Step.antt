-- The sequential step: the answer to a call in a state, and the state after it.
use Rattle.std.specs.Prelude.{ℕ, zero, suc, ◌+◌, ◌^◌, Bool, false, not, ◌&&◌, ◌||◌, List, [], ◌∷◌, filter, Option, Some, None, Result, Ok, Err, ok_or}
use Rattle.std.specs.Prelude.{option_map, slice_get, nat_lt, if◌then◌else◌}
use Rattle.std.specs.List.{list_any}
use Rattle.std.specs.Option.{option_map_or}
use Rattle.check_sched.specs.declared.call.Call.{Call}
use Rattle.check_sched.specs.declared.call.Call.TheVariants as call
use Rattle.check_sched.specs.declared.call.Reply.{Reply}
use Rattle.check_sched.specs.declared.call.Reply.TheVariants as reply
use Rattle.check_sched.specs.declared.call.Refusal.{Refusal}
use Rattle.check_sched.specs.declared.call.Refusal.TheVariants as refusal
use Rattle.check_sched.specs.Scheduling.{object_with_run, object_after_run, run_under, freed_time, put_off_to, object_after_reschedule, enabled_as}
use Rattle.check_saved_state.specs.Scheduling.{Scheduling}
use Rattle.check_sched.specs.Candidate.{Candidate, candidates_among, due_among}
use Rattle.check_queue.specs.Order.{least}
use Rattle.check_states.specs.declared.state.Code.{Code}
use Rattle.check_states.specs.declared.standing.Standing.{Standing}
use Rattle.check_states.specs.declared.state.State as rules
use Rattle.check_states.specs.Flapping.{results_after}
use Rattle.check_states.specs.State.{is_another_state}
use Rattle.check_sched.specs.State.{State, is_below_limit, is_host, standing_at}
use Rattle.check_sched.specs.Report.{flaps_with, new_standing, next_after, put_off_until, state_found}
use Rattle.check_rules.specs.Dependencies.{is_blocked}

-- a list with one item for each object, in which f changes the item of this number
abbrev pub update_at : {X : Type 0} → ℕ → (X → X) → List X → List X
update_at number f [] = []
update_at zero f (x ∷ xs) = f x ∷ xs
update_at (suc number) f (x ∷ xs) = x ∷ update_at number f xs

-- the state in which f has changed the object of this number, and all else is as it was
abbrev pub with_object : ℕ → (Scheduling → Scheduling) → State → State
with_object number f s = record {
  setup = s.setup;
  start = s.start;
  objects = update_at number f s.objects;
  standings = s.standings;
  results = s.results;
  runs = s.runs;
}

-- ---- refusals, in the order in which they are tested

infixl 10 ◌>>=◌
-- the next result, unless there was a refusal before it
abbrev pub ◌>>=◌ : {A B : Type 0} → Result A Refusal → (A → Result B Refusal) → Result B Refusal
(Ok x) >>= f = f x
(Err why) >>= f = Err why

-- an object that doesn't exist is refused
abbrev pub existing_object : ℕ → State → Result Scheduling Refusal
existing_object number s = ok_or (slice_get s.objects number) refusal.UnknownObject

-- a moment above 2^60 is refused
abbrev pub moment_test : ℕ → Result (Unit {0}) Refusal
moment_test moment = if nat_lt (2 ^ 60) moment then Err refusal.TimeRange else Ok tt

-- a check after 2^60 runs is refused
abbrev pub run_test : State → Result (Unit {0}) Refusal
run_test s = if nat_lt s.runs (2 ^ 60) then Ok tt else Err refusal.RunsSpent

-- ---- Take

-- Every object that waits for a check: it has a next time, isn't being checked, and is enabled or
-- forced. ("Service and Host Check Scheduling".)
abbrev pub candidates : State → List Candidate
candidates s = candidates_among s.objects

-- the candidates whose time has come
abbrev pub due_candidates : ℕ → State → List Candidate
due_candidates now s = due_among now (candidates s)

-- Whether the check of the object with this number may begin while others run. A host's check always may. A service's check may if there is room for
-- one more. ("Main Configuration File Options", max_concurrent_checks; in our own profile a forced check keeps to the limit.)
abbrev pub is_startable : State → ℕ → Bool
is_startable s number = is_host s.setup number || is_below_limit s

-- the candidates that are due and whose check may begin
abbrev pub eligible_candidates : ℕ → State → List Candidate
eligible_candidates now s = filter (λ c. is_startable s c.1) (due_candidates now s)

-- the object's check begins under the next run number
abbrev pub state_after_take : ℕ → ℕ → State → State
state_after_take now number s = record {
  setup = s.setup;
  start = s.start;
  objects = update_at number (object_with_run (record { number = s.runs + 1; start = now })) s.objects;
  standings = s.standings;
  results = s.results;
  runs = s.runs + 1;
}

-- The reply if no object may be checked: the limit if some service is due, otherwise the least time of all objects that wait.
abbrev pub waiting_reply : ℕ → State → Reply
waiting_reply now s = if list_any (λ c. not (is_host s.setup c.1)) (due_candidates now s) then reply.AtLimit else reply.Idle (option_map (λ c. c.0) (least (candidates s)))

-- whether the next check of the object with this number is forced
abbrev pub is_forced : State → ℕ → Bool
is_forced s number = option_map_or (λ o. o.forced) (slice_get s.objects number) false

-- Whether the object with this number isn't to be checked although it was chosen: some dependency of it fails, and its check isn't forced. ("Host
-- and Service Dependencies"; in our own profile a forced check ignores dependencies.)
abbrev pub is_held_back : State → ℕ → Bool
is_held_back s number = not (is_forced s number) && is_blocked s.setup s.standings number

-- the object is put off, and all else is as it was
abbrev pub put_off : ℕ → ℕ → State → State
put_off now number s = with_object number (put_off_to (put_off_until s.setup number now)) s

-- the object that the take chose, put off or checked
abbrev pub take_candidate : ℕ → ℕ → State → State × Reply
take_candidate now number s =
    if is_held_back s number then (put_off now number s, reply.PutOff number (put_off_until s.setup number now))
    else (state_after_take now number s, reply.Taken number (s.runs + 1))

-- A take chooses the least candidate whose check may begin, if there is one. (The order of equal times is our own profile: the least number.)
abbrev pub take_least : ℕ → State → Option Candidate → State × Reply
take_least now s (Some c) = take_candidate now c.1 s
take_least now s None = (s, waiting_reply now s)

abbrev pub take_answer : ℕ → State → Result (State × Reply) Refusal
take_answer now s = moment_test now >>= λ _. (run_test s >>= λ _. Ok (take_least now s (least (eligible_candidates now s))))

-- ---- Report

-- The state after a report. The object's run has ended, its standing and next time are these, and the state that was found is the last of its
-- results.
abbrev pub state_after_report : ℕ → rules.State → Standing → Option ℕ → State → State
state_after_report number found standing next s = record {
  setup = s.setup;
  start = s.start;
  objects = update_at number (object_after_run next) s.objects;
  standings = update_at number (λ before. standing) s.standings;
  results = update_at number (λ results. results_after results found) s.results;
  runs = s.runs;
}

-- The reply to a report: the new standing, whether its state differs from the one before, and the next time. (In our own profile, the state of an
-- object that was never checked is OK or UP.)
abbrev pub standing_reply : ℕ → Standing → Option ℕ → State → Reply
standing_reply number standing next s = reply.Standing standing (is_another_state standing.state (standing_at s.standings number).state) next

-- the state for this code of the object's check
abbrev pub state_found_in : State → ℕ → Code → rules.State
state_found_in s number code = state_found s.setup s.standings number code

-- the object's standing after a check that found this state
abbrev pub new_standing_in : State → ℕ → rules.State → Standing
new_standing_in s number found = new_standing s.setup s.standings number found (flaps_with s.setup s.standings s.results number found)

-- the answer to the result of a run that began at start; the next time may be set already
abbrev pub report_result : ℕ → ℕ → Code → Option ℕ → State → State × Reply
report_result number start code already s =
    let found = state_found_in s number code in
    let standing = new_standing_in s number found in
    let next = next_after s.setup number standing start already in
    (state_after_report number found standing next s, standing_reply number standing next s)

abbrev pub report_of_run : ℕ → ℕ → Code → Scheduling → State → State × Reply
report_of_run number start code o s = report_result number start code o.next s

abbrev pub report_answer : ℕ → ℕ → Code → State → Result (State × Reply) Refusal
report_answer number run code s = existing_object number s >>= λ o. (run_under run o.run >>= λ r. Ok (report_of_run number r.start code o s))

-- ---- the operators' calls

-- Abandon: the run ends without a result, and the reply is the time of the next check.
abbrev pub abandon_answer : ℕ → ℕ → ℕ → State → Result (State × Reply) Refusal
abandon_answer number run now s =
    existing_object number s >>= λ o. (moment_test now >>= λ _. (run_under run o.run >>= λ _.
    Ok (with_object number (object_after_run (Some (freed_time now o))) s, reply.Freed (freed_time now o))))

-- Reschedule: the next check is at this time, forced or not, whether the object is being checked or not.
abbrev pub reschedule_answer : ℕ → ℕ → Bool → State → Result (State × Reply) Refusal
reschedule_answer number time forced s = existing_object number s >>= λ _. (moment_test time >>= λ _. Ok (with_object number (object_after_reschedule time forced) s, reply.Done))

-- Enable: the active checks are on or off, and nothing else changes.
abbrev pub enable_answer : ℕ → Bool → State → Result (State × Reply) Refusal
enable_answer number on s = existing_object number s >>= λ _. Ok (with_object number (enabled_as on) s, reply.Done)

-- Status: returns the standing and the next time, and changes nothing.
abbrev pub status_answer : ℕ → State → Result (State × Reply) Refusal
status_answer number s = existing_object number s >>= λ o. Ok (s, reply.Standing (standing_at s.standings number) false o.next)

-- ---- every call

-- the state after a call and its reply, or why the call is refused
abbrev pub answer_to : State → Call → Result (State × Reply) Refusal
answer_to s (call.Take now) = take_answer now s
answer_to s (call.Report object run code) = report_answer object run code s
answer_to s (call.Abandon object run now) = abandon_answer object run now s
answer_to s (call.Reschedule object time forced) = reschedule_answer object time forced s
answer_to s (call.Enable object on) = enable_answer object on s
answer_to s (call.Status object) = status_answer object s

-- a refused call leaves the state as it was
abbrev pub step_of_answer : State → Result (State × Reply) Refusal → State × Reply
step_of_answer s (Ok answer) = answer
step_of_answer s (Err why) = (s, reply.Refused why)

abbrev pub step : State → Call → State × Reply
step s c = step_of_answer s (answer_to s c)

-- the replies to a sequence of calls
abbrev pub replies : State → List Call → List Reply
replies s [] = []
replies s (c ∷ calls) = (step s c).1 ∷ replies (step s c).0 calls

-- the state after a sequence of calls
abbrev pub after : State → List Call → State
after s [] = s
after s (c ∷ calls) = after (step s c).0 calls
