-- Laws of Take: its answers, and the state that it leaves.
use Rattle.std.proofs.Common.{◌≡◌, ℕ, ◌+◌, ◌<◌, ◌≤◌, ◌^◌, Bool, true, false, cond, List, length, Option, Some, None, option_map}
use Rattle.std.proofs.Common.{refl, sym, ◌∙◌}
use Rattle.std.proofs.Common.{arith, IfSome}
use Rattle.std.specs.Prelude.{nat_lt, nat_le}
use Rattle.std.proofs.lemmas.Bool.Decides.{nat_tests}
use Rattle.std.proofs.lemmas.List.{nil_from_length}
use Rattle.check_objects.specs.Configuration.{Configuration, dependencies_of, object_count}
use Rattle.check_states.specs.declared.standing.Standing.{Standing}
use Rattle.check_rules.specs.Dependencies.{is_blocked}
use Rattle.check_rules.proofs.BlockedLaws as rules
use Rattle.check_sched.specs.Scheduling.{object_with_run}
use Rattle.check_sched.specs.Candidate.{Candidate}
use Rattle.check_queue.specs.Order.{least}
use Rattle.check_sched.specs.declared.call.Reply.{Reply}
use Rattle.check_sched.specs.declared.call.Reply.TheVariants as reply
use Rattle.check_sched.specs.declared.call.Refusal.{Refusal}
use Rattle.check_sched.specs.declared.call.Call.TheVariants as call
use Rattle.check_sched.specs.State.{State, IsState}
use Rattle.check_saved_state.specs.Scheduling.{is_in_time, is_timed_if_forced}
use Rattle.check_sched.specs.Report.{put_off_until}
use Rattle.check_sched.specs.Step.{candidates, due_candidates, eligible_candidates, is_held_back, is_startable, put_off, run_test, step, state_after_take}
use Rattle.check_sched.specs.Step.{take_least, waiting_reply, moment_test}
use Rattle.check_sched.proofs.EligibleLaws.{eligible_open}
use Rattle.check_sched.proofs.LimitLaws.{limit_taken}
use Rattle.check_sched.proofs.AnswerLaws.{by_test, left_is, range_is}
use Rattle.check_queue.proofs.LeastLaws.{all_at_least, all_filtered}
use Rattle.check_sched.proofs.CandidateLaws.{candidates_within, candidates_times}
use Rattle.check_sched.proofs.RunningLaws.{numbered_taken, once_taken}
use Rattle.check_sched.proofs.UpdateLaws.{length-update_at, all-update_at}

-- ---- what isn't held back

-- an object that depends on nothing isn't blocked
pub unblocked : (setup : Configuration) (standings : List Standing) (n : ℕ) → length (dependencies_of setup n) ≡ 0
    → is_blocked setup standings n ≡ false
unblocked setup standings n none = sym (rules.unblocked setup standings n (nil_from_length (dependencies_of setup n) none))

-- ---- Take, by its answers

take_or_put_off : (P : State × Reply → Type 0) (now n : ℕ) (s : State) (held : Bool) → is_held_back s n ≡ held
    → (is_held_back s n ≡ true → P (put_off now n s, reply.PutOff n (put_off_until s.setup n now)))
    → (is_held_back s n ≡ false → P (state_after_take now n s, reply.Taken n (s.runs + 1)))
    → P (cond held (put_off now n s, reply.PutOff n (put_off_until s.setup n now)) (state_after_take now n s, reply.Taken n (s.runs + 1)))
take_or_put_off P now n s true e off on = off e
take_or_put_off P now n s false e off on = on e

pub take_by : (P : State × Reply → Type 0) (now : ℕ) (s : State) (found : Option Candidate)
    → ((c : Candidate) → found ≡ Some c → P (put_off now c.1 s, reply.PutOff c.1 (put_off_until s.setup c.1 now)))
    → ((c : Candidate) → found ≡ Some c → P (state_after_take now c.1 s, reply.Taken c.1 (s.runs + 1)))
    → (found ≡ None → P (s, waiting_reply now s))
    → P (take_least now s found)
take_by P now s (Some c) off take wait = take_or_put_off P now c.1 s (is_held_back s c.1) refl (λ e. off c refl) (λ e. take c refl)
take_by P now s None off take wait = wait refl

-- what is true of a Take is what is true of each of its answers
pub take_cases : (P : State × Reply → Type 0) (now : ℕ) (s : State)
    → ((why : Refusal) → P (s, reply.Refused why))
    → ((c : Candidate) → now ≤ 2 ^ 60 → least (eligible_candidates now s) ≡ Some c → P (put_off now c.1 s, reply.PutOff c.1 (put_off_until s.setup c.1 now)))
    → ((c : Candidate) → now ≤ 2 ^ 60 → s.runs < 2 ^ 60 → least (eligible_candidates now s) ≡ Some c → P (state_after_take now c.1 s, reply.Taken c.1 (s.runs + 1)))
    → (least (eligible_candidates now s) ≡ None → P (s, waiting_reply now s))
    → P (step s (call.Take now))
take_cases P now s refused off take wait =
    by_test P s (moment_test now) _ refused
    (λ u m. by_test P s (run_test s) _ refused
    (λ v r. take_by P now s (least (eligible_candidates now s)) (λ c e. off c (range_is now u m) e) (λ c e. take c (range_is now u m) (left_is s v r) e) wait))

-- ---- the limits

-- what may be checked now is one of the objects
pub eligible_within : (now : ℕ) (s : State) (c : Candidate) → IsState s → least (eligible_candidates now s) ≡ Some c → c.1 < object_count s.setup
eligible_within now s c is_state e =
    let within = all_at_least (λ x. nat_lt x.1 (length s.objects)) c (eligible_candidates now s) e
    (all_filtered (λ x. nat_lt x.1 (length s.objects)) (λ x. is_startable s x.1) (due_candidates now s)
    (all_filtered (λ x. nat_lt x.1 (length s.objects)) (λ x. nat_le x.0 now) (candidates s) (candidates_within s.objects))) in
    let less : c.1 < length s.objects = grind (arith, nat_tests, within) in
    omega (arith, less, is_state.one_each)

-- the same of what was found, if anything was
pub found_within : (now : ℕ) (s : State) (found : Option Candidate) → IsState s → found ≡ least (eligible_candidates now s)
    → IfSome found (λ c. c.1 < object_count s.setup)
found_within now s None is_state e = tt
found_within now s (Some c) is_state e = eligible_within now s c is_state (sym e)

-- and its check may begin
pub found_open : (now : ℕ) (s : State) (found : Option Candidate) → found ≡ least (eligible_candidates now s) → IfSome found (λ c. is_startable s c.1 ≡ true)
found_open now s None e = tt
found_open now s (Some c) e = eligible_open now s c (sym e)

least_time_by : (s : State) (found : Option Candidate) → IsState s → least (candidates s) ≡ found → IfSome (option_map (λ c. c.0) found) (λ time. time ≤ 2 ^ 61)
least_time_by s None is_state e = tt
least_time_by s (Some c) is_state e =
    let in_time = all_at_least (λ x. nat_le x.0 (2 ^ 61)) c (candidates s) e (candidates_times s.objects is_state.times) in
    grind (arith, nat_tests, in_time)

-- the least time of all that wait is at most 2^61
pub least_time : (s : State) → IsState s → IfSome (option_map (λ c. c.0) (least (candidates s))) (λ time. time ≤ 2 ^ 61)
least_time s is_state = least_time_by s (least (candidates s)) is_state refl

-- an object whose check begins leaves the state one that a scheduler can be in
pub taken_is_state : (now n : ℕ) (s : State) → IsState s → now ≤ 2 ^ 60 → s.runs < 2 ^ 60 → is_startable s n ≡ true → IsState (state_after_take now n s)
taken_is_state now n s is_state m r may =
    let moment : nat_le now (2 ^ 60) ≡ true = grind (arith, nat_tests, m) in
    record {
      valid_setup = is_state.valid_setup;
      start = is_state.start;
      one_each = length-update_at n _ s.objects ∙ is_state.one_each;
      one_standing_each = is_state.one_standing_each;
      results_each = is_state.results_each;
      runs = omega arith;
      times = all-update_at is_in_time n (object_with_run (record { number = s.runs + 1; start = now })) s.objects is_state.times (λ o e. moment);
      limit = limit_taken now n s may is_state.limit;
      standings = is_state.standings;
      numbered = numbered_taken now n s is_state.numbered;
      once = once_taken now n s is_state.numbered is_state.once;
      forced = all-update_at is_timed_if_forced n (object_with_run (record { number = s.runs + 1; start = now })) s.objects is_state.forced (λ o e. refl);
      results = is_state.results;
    }
