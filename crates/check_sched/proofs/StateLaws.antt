-- Every call leaves a state that a scheduler can be in, and what was kept of one is taken up with its history.
use Rattle.std.proofs.Common.{◌≡◌, ℕ, ◌+◌, ◌<◌, ◌≤◌, ◌^◌, ◌==◌, Bool, true, false, cond, List, [], ◌∷◌, ◌++◌, Option, Some, None, refl, sym, ap, subst, ◌∙◌}
use Rattle.std.proofs.Common.{arith}
use Rattle.std.specs.Prelude.{is_some, option_and_then, slice_get}
use Rattle.std.specs.Option.{option_map_or}
use Rattle.std.proofs.lemmas.Bool.Decides.{nat_tests}
use Rattle.std.proofs.lemmas.Bool.{and_from, and_parts}
use Rattle.ticket_steps.specs.declared.books.Entry.{Entry}
use Rattle.ticket_steps.specs.History.{replay, IsLegal}
use Rattle.check_objects.specs.Configuration.{Configuration, IsSetup, NamedObject, objects_of}
use Rattle.check_queue.specs.Order.{least}
use Rattle.check_states.specs.declared.standing.Standing.{Standing}
use Rattle.check_sched.specs.Candidate.{Candidate}
use Rattle.check_sched.specs.declared.call.Call.{Call}
use Rattle.check_sched.specs.declared.call.Call.TheVariants as call
use Rattle.check_sched.specs.declared.call.Reply.{Reply}
use Rattle.check_sched.specs.declared.call.Reply.TheVariants as reply
use Rattle.check_sched.specs.Report.{flaps_with, next_after, put_off_until}
use Rattle.check_sched.specs.Intervals.{interval_for_standing, intervals_for, time_after}
use Rattle.check_sched.specs.Saved.{state_after_resume, saved_of}
use Rattle.check_sched.specs.Scheduling.{object_after_run, enabled_as, freed_time, put_off_to, object_after_reschedule}
use Rattle.check_saved_state.specs.Scheduling.{Scheduling, is_moment, is_time}
use Rattle.check_sched.specs.State.{IsState, State}
use Rattle.check_sched.specs.Step.{eligible_candidates, state_found_in, is_forced, is_held_back, new_standing_in, put_off, run_test, step, take_least}
use Rattle.check_sched.specs.Step.{state_after_take, moment_test}
use Rattle.check_sched.proofs.AnswerLaws.{by_test, left_is, range_is}
use Rattle.check_sched.proofs.EligibleLaws.{eligible_open}
use Rattle.check_sched.proofs.FromStateLaws.{started, step_started}
use Rattle.check_sched.proofs.IntervalLaws.{interval_few, intervals_few}
use Rattle.check_sched.proofs.OperatorLaws.{abandon_cases, enable_cases, reschedule_cases, status_cases, with_object_is_state}
use Rattle.check_sched.proofs.RunningLaws.{timed_if}
use Rattle.check_sched.proofs.ReportLaws.{is_an_object, judged_is_standing, next_already, next_of_state, object_in_range, report_cases}
use Rattle.check_sched.proofs.ReportLaws.{reported_is_state, standing_of_state, start_of_state, time_by}
use Rattle.check_sched.proofs.SavedLaws.{resumed_same}
use Rattle.check_sched.proofs.StandingLaws.{found_sort}
use Rattle.check_sched.proofs.TakeLaws.{taken_is_state}

-- ---- times

-- the time after an interval
interval_in_time : (start interval : ℕ) → start ≤ 2 ^ 60 → interval ≤ 45411840000000 → is_time (time_after start interval) ≡ true
interval_in_time start interval m bounded = time_by (interval == 0) (start + interval) (omega (arith, m, bounded))

put_off_by : (setup : Configuration) (n now : ℕ) (found : Option NamedObject) → IsSetup setup → slice_get (objects_of setup) n ≡ found → now ≤ 2 ^ 60
    → is_time (option_and_then (λ o. time_after now (intervals_for setup o.object).check) found) ≡ true
put_off_by setup n now None valid e m = refl
put_off_by setup n now (Some o) valid e m =
    let bounded = intervals_few setup o.object valid (object_in_range setup n o valid e) in
    interval_in_time now (intervals_for setup o.object).check m bounded.check

next_check_time : (setup : Configuration) (n : ℕ) (standing : Standing) (start : ℕ) (already : Option ℕ) (found : Option NamedObject) → IsSetup setup
    → slice_get (objects_of setup) n ≡ found → start ≤ 2 ^ 60
    → is_time (option_and_then (λ o. time_after start (interval_for_standing (intervals_for setup o.object) standing)) found) ≡ true
next_check_time setup n standing start already None valid e m = refl
next_check_time setup n standing start already (Some o) valid e m =
    let bounded = intervals_few setup o.object valid (object_in_range setup n o valid e) in
    interval_in_time start _ m (interval_few (intervals_for setup o.object) standing bounded)

next_in_time : (setup : Configuration) (n : ℕ) (standing : Standing) (start : ℕ) (already : Option ℕ) → IsSetup setup → start ≤ 2 ^ 60
    → is_time already ≡ true → is_time (next_after setup n standing start already) ≡ true
next_in_time setup n standing start None valid m h = next_check_time setup n standing start None (slice_get (objects_of setup) n) valid refl m
next_in_time setup n standing start (Some time) valid m h = h

freed_in_time : (now : ℕ) (next : Option ℕ) (o : Scheduling) → o.next ≡ next → now ≤ 2 ^ 60 → is_time o.next ≡ true → is_time (Some (freed_time now o)) ≡ true
freed_in_time now None o e m h = rw e (grind (arith, nat_tests, m))
freed_in_time now (Some time) o e m h = rw e (rw e at h)

-- ---- one call

-- an object that is held back isn't forced
not_forced : (s : State) (n : ℕ) (forced : Bool) → is_forced s n ≡ forced → is_held_back s n ≡ true → is_forced s n ≡ false
not_forced s n true e h = let clash : false ≡ true = rw e at h in cc
not_forced s n false e h = e

unforced_at : (s : State) (n : ℕ) (o : Scheduling) → slice_get s.objects n ≡ Some o → is_forced s n ≡ false → o.forced ≡ false
unforced_at s n o e h = sym (ap (λ found. option_map_or (λ (x : Scheduling). x.forced) found false) e) ∙ h

put_off_is_state : (now n : ℕ) (s : State) → IsState s → now ≤ 2 ^ 60 → is_held_back s n ≡ true → IsState (put_off now n s)
put_off_is_state now n s is m held =
    let until = put_off_until s.setup n now in
    let time : is_time until ≡ true = put_off_by s.setup n now (slice_get (objects_of s.setup) n) is.valid_setup refl m in
    with_object_is_state n (put_off_to until) s is
    (λ o e. and_from (is_time until) (is_moment o.run) time (and_parts (is_time o.next) (is_moment o.run) e).1) (λ o r e. e)
    (λ o e t. let none = unforced_at s n o e (not_forced s n (is_forced s n) refl held) in
    timed_if until o.forced (λ forced. let clash : true ≡ false = sym forced ∙ none in cc))

chosen_is_state : (now n : ℕ) (s : State) (held : Bool) → is_held_back s n ≡ held → IsState s → now ≤ 2 ^ 60 → (is_held_back s n ≡ false → IsState (state_after_take now n s))
    → IsState (cond {A = State × Reply} held (put_off now n s, reply.PutOff n (put_off_until s.setup n now)) (state_after_take now n s, reply.Taken n (s.runs + 1))).0
chosen_is_state now n s true e is m take = put_off_is_state now n s is m e
chosen_is_state now n s false e is m take = take e

least_is_state : (now : ℕ) (s : State) (found : Option Candidate) → least (eligible_candidates now s) ≡ found → IsState s → now ≤ 2 ^ 60 → s.runs < 2 ^ 60
    → IsState (take_least now s found).0
least_is_state now s (Some c) e is m r =
    chosen_is_state now c.1 s (is_held_back s c.1) refl is m (λ free. taken_is_state now c.1 s is m r (eligible_open now s c e))
least_is_state now s None e is m r = is

-- Every call leaves a state that a scheduler can be in.
pub step_is_state : (s : State) (c : Call) → IsState s → IsState (step s c).0
step_is_state s (call.Take now) is =
    by_test (λ a. IsState a.0) s (moment_test now) _ (λ why. is)
    (λ u m. by_test (λ a. IsState a.0) s (run_test s) _ (λ why. is)
    (λ v r. least_is_state now s (least (eligible_candidates now s)) refl is (range_is now u m) (left_is s v r)))
step_is_state s (call.Report n run c) is =
    report_cases (λ a. IsState a.0) n run c s (λ why. is)
    (λ o r e f.
    let in_range = is_an_object s n o is.one_each e in
    let found = state_found_in s n c in
    let standing = new_standing_in s n found in
    let already = next_of_state s n o is e in
    reported_is_state n found standing (next_after s.setup n standing r.start o.next) s is
    (next_in_time s.setup n standing r.start o.next is.valid_setup (start_of_state s n o r is e f) already)
    (λ x g h. let same : Some x ≡ Some o = sym g ∙ e in
    let is_it : x ≡ o = cc in
    next_already s.setup n standing r.start o.next (ap (λ (y : Scheduling). is_some y.next) (sym is_it) ∙ h))
    (found_sort s n c in_range)
    (judged_is_standing s.setup s.standings n found (flaps_with s.setup s.standings s.results n found) is.valid_setup (found_sort s n c in_range)
    (standing_of_state s n is in_range)))
step_is_state s (call.Abandon n run now) is =
    abandon_cases (λ a. IsState a.0) n run now s (λ why. is)
    (λ o e m. let time = freed_in_time now o.next o refl m (next_of_state s n o is e) in
    with_object_is_state n (object_after_run (Some (freed_time now o))) s is (λ x g. and_from (is_time (Some (freed_time now o))) true time refl) (λ x q g. cc) (λ x g t. refl))
step_is_state s (call.Reschedule n time forced) is =
    reschedule_cases (λ a. IsState a.0) n time forced s (λ why. is)
    (λ m. let within : is_time (Some time) ≡ true = grind (arith, nat_tests, m) in
    with_object_is_state n (object_after_reschedule time forced) s is
    (λ x g. and_from (is_time (Some time)) (is_moment x.run) within (and_parts (is_time x.next) (is_moment x.run) g).1) (λ x q g. g) (λ x g t. refl))
step_is_state s (call.Enable n on) is =
    enable_cases (λ a. IsState a.0) n on s (λ why. is) (with_object_is_state n (enabled_as on) s is (λ x g. g) (λ x q g. g) (λ x g t. t))
step_is_state s (call.Status n) is = status_cases (λ a. IsState a.0) n s (λ why. is) (λ o e. is)

-- ---- histories

pub replay_is_state : (s : State) (h : List (Entry Call Reply)) → IsState s → IsState (replay step s h)
replay_is_state s [] is = is
replay_is_state s (e ∷ h) is = replay_is_state (step s e.call).0 h (step_is_state s e.call is)

-- a history that is legal from another start on
legal_started : (start : ℕ) (s : State) (h : List (Entry Call Reply)) → IsLegal step (started start s) h → IsLegal step s h
legal_started start s [] legal = tt
legal_started start s (e ∷ h) legal =
    let same = step_started start s e.call in (
      legal.0 ∙ ap (λ (a : State × Reply). a.1) same,
      legal_started start (step s e.call).0 h (subst (λ t. IsLegal step t h) (ap (λ (a : State × Reply). a.0) same) legal.1),
    )

pub joined_legal : (s : State) (before later : List (Entry Call Reply)) → IsLegal step s before → IsLegal step (replay step s before) later
    → IsLegal step s (before ++ later)
joined_legal s [] later legal more = more
joined_legal s (e ∷ before) later legal more = (legal.0, joined_legal (step s e.call).0 before later legal.1 more)

-- what is legal up to where a scheduler was put down, and from where one continues over the same setup, is legal together
pub legal_joined : (s : State) (before later : List (Entry Call Reply)) (start : ℕ) → IsState s → IsLegal step s before
    → IsLegal step (state_after_resume (replay step s before).setup (saved_of (replay step s before)) start) later → IsLegal step s (before ++ later)
legal_joined s before later start is legal more =
    let left = replay step s before in
    joined_legal s before later legal
    (legal_started start left later (subst (λ t. IsLegal step t later) (resumed_same left start (replay_is_state s before is)) more))
