-- Laws of the operators' calls: Abandon, Reschedule, Enable and Status.
use Rattle.std.proofs.Common.{◌≡◌, ℕ, ◌≤◌, ◌^◌, Bool, true, false, Some, Ok, refl, ◌∙◌}
use Rattle.std.specs.Prelude.{slice_get}
use Rattle.check_sched.specs.Scheduling.{object_after_run, enabled_as, freed_time, object_after_reschedule, run_under}
use Rattle.check_saved_state.specs.Scheduling.{Scheduling, OpenRun, is_in_time, is_timed_if_forced}
use Rattle.check_sched.specs.declared.call.Call.TheVariants as call
use Rattle.check_sched.specs.declared.call.Reply.{Reply}
use Rattle.check_sched.specs.declared.call.Reply.TheVariants as reply
use Rattle.check_sched.specs.declared.call.Refusal.{Refusal}
use Rattle.check_sched.specs.State.{State, IsState, standing_at}
use Rattle.check_sched.specs.Step.{existing_object, step, with_object, moment_test}
use Rattle.check_sched.proofs.AnswerLaws.{by_test, known_is, range_is}
use Rattle.check_sched.proofs.LimitLaws.{BeginsNone, limit_kept}
use Rattle.check_sched.proofs.RunningLaws.{numbered_kept, once_kept}
use Rattle.check_sched.proofs.UpdateLaws.{length-update_at, all-update_at, all-update_at_place}

-- ---- each call, by its answers

pub abandon_cases : (P : State × Reply → Type 0) (n run now : ℕ) (s : State)
    → ((why : Refusal) → P (s, reply.Refused why))
    → ((o : Scheduling) → slice_get s.objects n ≡ Some o → now ≤ 2 ^ 60 → P (with_object n (object_after_run (Some (freed_time now o))) s, reply.Freed (freed_time now o)))
    → P (step s (call.Abandon n run now))
abandon_cases P n run now s refused free =
    by_test P s (existing_object n s) _ refused
    (λ o e. by_test P s (moment_test now) _ refused
    (λ u m. by_test P s (run_under run o.run) _ refused
    (λ r f. free o (known_is n s o e) (range_is now u m))))

pub reschedule_cases : (P : State × Reply → Type 0) (n time : ℕ) (forced : Bool) (s : State)
    → ((why : Refusal) → P (s, reply.Refused why))
    → (time ≤ 2 ^ 60 → P (with_object n (object_after_reschedule time forced) s, reply.Done))
    → P (step s (call.Reschedule n time forced))
reschedule_cases P n time forced s refused done =
    by_test P s (existing_object n s) _ refused
    (λ o e. by_test P s (moment_test time) _ refused
    (λ u m. done (range_is time u m)))

pub enable_cases : (P : State × Reply → Type 0) (n : ℕ) (on : Bool) (s : State)
    → ((why : Refusal) → P (s, reply.Refused why))
    → P (with_object n (enabled_as on) s, reply.Done)
    → P (step s (call.Enable n on))
enable_cases P n on s refused done = by_test P s (existing_object n s) _ refused (λ o e. done)

pub status_cases : (P : State × Reply → Type 0) (n : ℕ) (s : State)
    → ((why : Refusal) → P (s, reply.Refused why))
    → ((o : Scheduling) → slice_get s.objects n ≡ Some o → P (s, reply.Standing (standing_at s.standings n) false o.next))
    → P (step s (call.Status n))
status_cases P n s refused answer = by_test P s (existing_object n s) _ refused (λ o e. answer o (known_is n s o e))

-- ---- the limits

-- one object changed, within its limits, leaves the state one that a scheduler can be in
pub with_object_is_state : (n : ℕ) (f : Scheduling → Scheduling) (s : State) → IsState s
    → ((o : Scheduling) → is_in_time o ≡ true → is_in_time (f o) ≡ true) → BeginsNone f
    → ((o : Scheduling) → slice_get s.objects n ≡ Some o → is_timed_if_forced o ≡ true → is_timed_if_forced (f o) ≡ true)
    → IsState (with_object n f s)
with_object_is_state n f s is_state h none timed = record {
  valid_setup = is_state.valid_setup;
  start = is_state.start;
  one_each = length-update_at n f s.objects ∙ is_state.one_each;
  one_standing_each = is_state.one_standing_each;
  results_each = is_state.results_each;
  runs = is_state.runs;
  times = all-update_at is_in_time n f s.objects is_state.times h;
  limit = limit_kept n f s none is_state.limit;
  standings = is_state.standings;
  numbered = numbered_kept n f s none is_state.numbered;
  once = once_kept n f s none is_state.once;
  forced = all-update_at_place is_timed_if_forced n f s.objects is_state.forced timed;
  results = is_state.results;
}

-- ---- what the code leaves and answers

pub abandon_answers : (n run now : ℕ) (s : State) (o : Scheduling) (u : Unit {0}) (r : OpenRun) → existing_object n s ≡ Ok o → moment_test now ≡ Ok u
    → run_under run o.run ≡ Ok r
    → step s (call.Abandon n run now) ≡ (with_object n (object_after_run (Some (freed_time now o))) s, reply.Freed (freed_time now o))
abandon_answers n run now s o u r e f g = rw (e, f, g) refl
