-- Laws of replies: which replies a call can have in a history.
use Rattle.std.proofs.Common.{◌≡◌, ℕ, ◌<◌, ◌^◌, Bool, true, false, ◌==◌, cond, List, [], ◌∷◌, ◌++◌, length, Option, Some, None, Result, Ok, Err, refl}
use Rattle.std.proofs.Common.{◌∙◌, arith}
use Rattle.std.specs.Prelude.{nat_lt, ok_or, slice_get}
use Rattle.ticket_steps.specs.declared.books.Entry.{Entry}
use Rattle.ticket_steps.specs.History.{entry, replay, IsLegal}
use Rattle.check_states.specs.declared.state.Code.{Code}
use Rattle.check_sched.specs.declared.call.Call.{Call}
use Rattle.check_sched.specs.declared.call.Call.TheVariants as call
use Rattle.check_sched.specs.declared.call.Reply.{Reply}
use Rattle.check_sched.specs.declared.call.Reply.TheVariants as reply
use Rattle.check_sched.specs.declared.call.Refusal.{Refusal}
use Rattle.check_sched.specs.declared.call.Refusal.TheVariants as refusal
use Rattle.check_sched.specs.Scheduling.{run_under}
use Rattle.check_saved_state.specs.Scheduling.{Scheduling, OpenRun}
use Rattle.check_sched.specs.Candidate.{Candidate}
use Rattle.check_queue.specs.Order.{least}
use Rattle.check_sched.specs.State.{State}
use Rattle.check_sched.specs.Step.{◌>>=◌, eligible_candidates, report_of_run, step_of_answer, step, take_least}
pub use Rattle.check_sched.specs.Reply.{IsReportRefusal, IsReportReply, IsTakeRefusal, IsTakeReply}
use Rattle.check_sched.proofs.EligibleLaws.{waiting_cases}
use Rattle.check_sched.proofs.OperatorLaws.{abandon_cases, enable_cases, reschedule_cases, status_cases}
use Rattle.check_sched.proofs.ReportLaws.{report_cases}
use Rattle.check_sched.proofs.RunLaws.{eligible_there, legal_back, legal_front}
use Rattle.check_sched.proofs.TakeLaws.{take_by, take_cases}
use Rattle.check_sched.proofs.UpdateLaws.{length-update_at, none_there}

-- ---- how many objects there are

-- what a call leaves has as many objects as the state before
abbrev AsMany : State → State × Reply → Type 0
AsMany s a = length a.0.objects ≡ length s.objects

-- no call changes how many objects there are
pub step_objects : (s : State) (c : Call) → length (step s c).0.objects ≡ length s.objects
step_objects s (call.Take now) =
    take_cases (AsMany s) now s (λ why. refl)
    (λ c m e. length-update_at c.1 _ s.objects) (λ c m q e. length-update_at c.1 _ s.objects) (λ e. refl)
step_objects s (call.Report n run c) = report_cases (AsMany s) n run c s (λ why. refl) (λ o r e f. length-update_at n _ s.objects)
step_objects s (call.Abandon n run now) = abandon_cases (AsMany s) n run now s (λ why. refl) (λ o e m. length-update_at n _ s.objects)
step_objects s (call.Reschedule n time forced) = reschedule_cases (AsMany s) n time forced s (λ why. refl) (λ m. length-update_at n _ s.objects)
step_objects s (call.Enable n on) = enable_cases (AsMany s) n on s (λ why. refl) (length-update_at n _ s.objects)
step_objects s (call.Status n) = status_cases (AsMany s) n s (λ why. refl) (λ o e. refl)

-- nor do the calls of a history
pub replay_objects : (s : State) (h : List (Entry Call Reply)) → length (replay step s h).objects ≡ length s.objects
replay_objects s [] = refl
replay_objects s (e ∷ h) = replay_objects (step s e.call).0 h ∙ step_objects s e.call

-- ---- one call

-- the two tests of a take
abbrev range_test : Bool → Result (Unit {0}) Refusal
range_test late = cond late (Err refusal.TimeRange) (Ok tt)

abbrev left_test : Bool → Result (Unit {0}) Refusal
left_test left = cond left (Ok tt) (Err refusal.RunsSpent)

chosen_reply : (s : State) (now : ℕ) (found : Option Candidate) → IsTakeReply (take_least now s found).1
chosen_reply s now found = take_by (λ a. IsTakeReply a.1) now s found (λ c e. tt) (λ c e. tt) (λ e. waiting_cases IsTakeReply now s tt tt)

take_tests : (s : State) (now : ℕ) (late left : Bool)
    → IsTakeReply (step_of_answer s (range_test late >>= λ _. (left_test left >>= λ _. Ok (take_least now s (least (eligible_candidates now s)))))).1
take_tests s now true left = tt
take_tests s now false true = chosen_reply s now (least (eligible_candidates now s))
take_tests s now false false = tt

-- a take has a take's reply
pub step_take : (s : State) (now : ℕ) → IsTakeReply (step s (call.Take now)).1
step_take s now = take_tests s now (nat_lt (2 ^ 60) now) (nat_lt s.runs (2 ^ 60))

-- what is taken is one of the objects
pub taken_there : (s : State) (now object run : ℕ) → reply.Taken object run ≡ (step s (call.Take now)).1 → object < length s.objects
taken_there s now object run =
    take_cases (λ a. reply.Taken object run ≡ a.1 → object < length s.objects) now s
    (λ why e. cc) (λ c m f e. cc)
    (λ c m q f e. let same : c.1 ≡ object = cc in let in_range = eligible_there now s c f in omega (arith, in_range, same))
    (λ f e. waiting_cases (λ w. reply.Taken object run ≡ w → object < length s.objects) now s (λ g. cc) (λ g. cc) e)

-- the answer to a report, by the run that the result is for, and by the object
abbrev run_answer : State → ℕ → Code → Scheduling → Result OpenRun Refusal → Result (State × Reply) Refusal
run_answer s n code o test = test >>= λ r. Ok (report_of_run n r.start code o s)

abbrev object_answer : State → ℕ → ℕ → Code → Result Scheduling Refusal → Result (State × Reply) Refusal
object_answer s n run code test = test >>= λ o. run_answer s n code o (run_under run o.run)

under_by : (s : State) (n : ℕ) (code : Code) (o : Scheduling) (x : OpenRun) (same : Bool)
    → IsReportReply (step_of_answer s (run_answer s n code o (cond same (Ok x) (Err refusal.WrongRun)))).1
under_by s n code o x true = tt
under_by s n code o x false = tt

run_by : (s : State) (n run : ℕ) (code : Code) (o : Scheduling) (running : Option OpenRun)
    → IsReportReply (step_of_answer s (run_answer s n code o (run_under run running))).1
run_by s n run code o None = tt
run_by s n run code o (Some x) = under_by s n code o x (x.number == run)

found_by : (s : State) (n run : ℕ) (code : Code) (found : Option Scheduling) → slice_get s.objects n ≡ found → n < length s.objects
    → IsReportReply (step_of_answer s (object_answer s n run code (ok_or found refusal.UnknownObject))).1
found_by s n run code None e in_range = let past = none_there s.objects n e in absurd (omega (arith, past, in_range))
found_by s n run code (Some o) e in_range = run_by s n run code o o.run

-- the report of an object that is there has a report's reply
pub step_report : (s : State) (n run : ℕ) (code : Code) → n < length s.objects → IsReportReply (step s (call.Report n run code)).1
step_report s n run code in_range = found_by s n run code (slice_get s.objects n) refl in_range

-- ---- histories

-- what was taken in a history is one of the objects that it began with
pub taken_among : (s : State) (front back : List (Entry Call Reply)) (m now object run : ℕ)
    → IsLegal step s ((front ++ entry m (call.Take now) (reply.Taken object run) ∷ []) ++ back) → object < length s.objects
taken_among s front back m now object run legal =
    let taken = entry m (call.Take now) (reply.Taken object run) in
    let until = legal_front s (front ++ taken ∷ []) back legal in
    let in_range = taken_there (replay step s front) now object run (legal_back s front (taken ∷ []) until).0 in
    let count = replay_objects s front in
    omega (arith, in_range, count)
