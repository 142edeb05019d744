-- Laws of histories from any state that a scheduler can be in, and of what no call reads.
use Rattle.std.proofs.Common.{◌≡◌, ℕ, ◌≤◌, ◌+◌, ◌-◌, Bool, true, false, cond, List, [], ◌++◌, length, Option, Some, None, Result, Ok, Err, refl, ap, ◌∙◌, arith}
use Rattle.std.proofs.Common.{subst}
use Rattle.std.specs.Prelude.{drop, slice_get, unwrap_or}
use Rattle.circular_buffer.specs.Buffer.{keep_last}
use Rattle.ticket_steps.specs.declared.books.Entry.{Entry}
use Rattle.ticket_steps.specs.History.{replay, IsLegal}
use Rattle.check_queue.specs.Order.{least}
use Rattle.check_states.specs.declared.state.State as rules
use Rattle.check_states.specs.declared.standing.Standing.{Standing}
use Rattle.check_sched.specs.Candidate.{Candidate}
use Rattle.check_sched.specs.declared.call.Call.{Call}
use Rattle.check_sched.specs.declared.call.Call.TheVariants as call
use Rattle.check_sched.specs.declared.call.Reply.{Reply}
use Rattle.check_sched.specs.declared.call.Reply.TheVariants as reply
use Rattle.check_sched.specs.declared.call.Refusal.{Refusal}
use Rattle.check_sched.specs.Flapping.{Flapping, flapping_in, reported_states, with_results}
use Rattle.check_sched.specs.Report.{put_off_until}
use Rattle.check_sched.specs.Scheduling.{run_under}
use Rattle.check_sched.specs.State.{IsPendingUntilChecked, IsState, State, flap_thresholds_of, results_at}
use Rattle.check_sched.specs.Step.{◌>>=◌, after, answer_to, eligible_candidates, is_held_back, existing_object, put_off, run_test, step_of_answer, step}
use Rattle.check_sched.specs.Step.{take_least, state_after_take, moment_test}
use Rattle.check_sched.proofs.FlappingLaws.{HasPlaces, kept_of_all, replay_flapping}
use Rattle.check_sched.proofs.PendingLaws.{ArePending, after_pending}
use Rattle.check_sched.proofs.StepLaws.{after_setup}

-- ---- what is never checked

pub pending_from : (s : State) (calls : List Call) (n : ℕ) (t : Standing) → IsState s → slice_get (after s calls).standings n ≡ Some t
    → IsPendingUntilChecked s.setup n t
pending_from s calls n t is e =
    let was : ArePending s = λ k x f. (is.standings k x f).until_checked in
    subst (λ c. IsPendingUntilChecked c n t) (after_setup s calls) (after_pending s calls was n t e)

-- ---- flapping

saved_indexes : (s : State) → IsState s → HasPlaces s
saved_indexes s is =
    let objects = is.one_each in
    let standings = is.one_standing_each in
    let results = is.results_each in
    (omega (arith, objects, standings), omega (arith, objects, results))

pub flapping_from : (s : State) (h : List (Entry Call Reply)) (object : ℕ) → IsState s → IsLegal step s h
    → flapping_in (replay step s h) object ≡ with_results (flap_thresholds_of s.setup object) (flapping_in s object) (reported_states object h)
flapping_from s h object is legal = replay_flapping s h object (saved_indexes s is) legal

all_kept : (results : List rules.State) → length results ≤ 21 → results ≡ keep_last 21 results
all_kept results bounded =
    let none : 0 ≡ length results - 21 = omega arith in
    ap (λ k. drop k results) none

few_results : (s : State) (object : ℕ) (found : Option (List rules.State)) → IsState s → slice_get s.results object ≡ found
    → length (unwrap_or found []) ≤ 21
few_results s object None is e = omega arith
few_results s object (Some results) is e = (is.results object results e).bounded

pub results_from : (s : State) (h : List (Entry Call Reply)) (object : ℕ) → IsState s → IsLegal step s h
    → results_at (replay step s h).results object ≡ keep_last 21 (results_at s.results object ++ reported_states object h)
results_from s h object is legal =
    ap (λ (f : Flapping). f.results) (flapping_from s h object is legal)
    ∙ kept_of_all (flap_thresholds_of s.setup object) (flapping_in s object) (results_at s.results object) (reported_states object h)
    (all_kept (results_at s.results object) (few_results s object (slice_get s.results object) is refl))

-- ---- the start, which no call reads

-- a state with another start
abbrev pub started : ℕ → State → State
started start s = record s { start = start }

abbrev with_start : ℕ → State × Reply → State × Reply
with_start start a = (started start a.0, a.1)

abbrev restarted : ℕ → Result (State × Reply) Refusal → Result (State × Reply) Refusal
restarted start (Ok a) = Ok (with_start start a)
restarted start (Err why) = Err why

-- what follows a test that reads no start
tested : {A : Type 0} (start : ℕ) (r : Result A Refusal) (f g : A → Result (State × Reply) Refusal) → ((x : A) → f x ≡ restarted start (g x))
    → (r >>= f) ≡ restarted start (r >>= g)
tested start (Ok x) f g h = h x
tested start (Err why) f g h = refl

chosen_started : (start now n : ℕ) (s : State) (held : Bool)
    → cond held (put_off now n (started start s), reply.PutOff n (put_off_until s.setup n now)) (state_after_take now n (started start s), reply.Taken n (s.runs + 1))
    ≡ with_start start (cond held (put_off now n s, reply.PutOff n (put_off_until s.setup n now)) (state_after_take now n s, reply.Taken n (s.runs + 1)))
chosen_started start now n s true = refl
chosen_started start now n s false = refl

least_started : (start now : ℕ) (s : State) (found : Option Candidate) → take_least now (started start s) found ≡ with_start start (take_least now s found)
least_started start now s (Some c) = chosen_started start now c.1 s (is_held_back s c.1)
least_started start now s None = refl

answer_started : (start : ℕ) (s : State) (c : Call) → answer_to (started start s) c ≡ restarted start (answer_to s c)
answer_started start s (call.Take now) =
    tested start (moment_test now) _ _ (λ u. tested start (run_test s) _ _ (λ v. ap Ok (least_started start now s (least (eligible_candidates now s)))))
answer_started start s (call.Report n run code) = tested start (existing_object n s) _ _ (λ o. tested start (run_under run o.run) _ _ (λ r. refl))
answer_started start s (call.Abandon n run now) =
    tested start (existing_object n s) _ _ (λ o. tested start (moment_test now) _ _ (λ u. tested start (run_under run o.run) _ _ (λ r. refl)))
answer_started start s (call.Reschedule n time forced) = tested start (existing_object n s) _ _ (λ o. tested start (moment_test time) _ _ (λ u. refl))
answer_started start s (call.Enable n on) = tested start (existing_object n s) _ _ (λ o. refl)
answer_started start s (call.Status n) = tested start (existing_object n s) _ _ (λ o. refl)

settled_started : (start : ℕ) (s : State) (r : Result (State × Reply) Refusal) → step_of_answer (started start s) (restarted start r) ≡ with_start start (step_of_answer s r)
settled_started start s (Ok a) = refl
settled_started start s (Err why) = refl

-- No call reads the start.
pub step_started : (start : ℕ) (s : State) (c : Call) → step (started start s) c ≡ (started start (step s c).0, (step s c).1)
step_started start s c = ap (step_of_answer (started start s)) (answer_started start s c) ∙ settled_started start s (answer_to s c)
