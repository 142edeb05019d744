-- Laws of reports: the standing and the next time that a result gives are within their limits.
use Rattle.std.proofs.Common.{◌≡◌, ℕ, ◌<◌, ◌≤◌, ◌^◌, Bool, true, false, cond, List, length, get_or, Option}
use Rattle.std.proofs.Common.{Some, None, option_map, refl, sym, ap, subst, ◌∙◌, arith, IfSome}
use Rattle.std.specs.Prelude.{is_some, slice_get, unwrap_or}
use Rattle.std.specs.Option.{option_map_or}
use Rattle.std.proofs.lemmas.Bool.Decides.{nat_tests}
use Rattle.std.proofs.lemmas.Option.{slice_get-get_or, slice_get_read, slice_get_within}
use Rattle.std.proofs.lemmas.Bool.{and_parts, and_from}
use Rattle.setup_model.specs.declared.parsed_setup.Object.{Object}
use Rattle.check_objects.specs.Configuration.{Configuration, NamedObject, objects_of, object_count, host_of, IsSetup, is_object_in_range}
use Rattle.check_states.specs.declared.state.Code.{Code}
use Rattle.check_states.specs.declared.state.State as rules
use Rattle.check_states.specs.declared.state.State.TheVariants as state
use Rattle.check_states.specs.declared.standing.Kind.{Kind}
use Rattle.check_states.specs.declared.standing.Kind.TheVariants as kind
use Rattle.check_states.specs.declared.standing.Standing.{Standing}
use Rattle.check_states.specs.State.{is_host_state, is_problem}
use Rattle.check_states.specs.Flapping.{results_after}
use Rattle.check_states.specs.Verdict.{kind_and_attempt, last_hard_after, verdict_on}
use Rattle.check_states.specs.Standing.{as_checked}
use Rattle.check_states.proofs.VerdictLaws.{pending_sort, verdict_is_lawful}
use Rattle.check_states.specs.Standing.{pending_standing}
use Rattle.check_sched.specs.Scheduling.{object_after_run, run_under}
use Rattle.check_saved_state.specs.Scheduling.{Scheduling, OpenRun, is_time, is_moment, is_in_time, is_timed_if_forced}
use Rattle.check_sched.specs.declared.call.Reply.{Reply}
use Rattle.check_sched.specs.declared.call.Reply.TheVariants as reply
use Rattle.check_sched.specs.declared.call.Refusal.{Refusal}
use Rattle.check_sched.specs.declared.call.Call.TheVariants as call
use Rattle.check_sched.specs.State.{State, AreResultsOf, IsState, IsStandingOf, is_host}
use Rattle.check_sched.specs.State.{max_attempts_of, standing_at}
use Rattle.check_sched.specs.Step.{state_found_in, new_standing_in, existing_object, report_of_run, report_result, state_after_report, standing_reply, step}
use Rattle.check_sched.proofs.AnswerLaws.{by_test, known_is, under_is}
use Rattle.check_sched.proofs.LimitLaws.{limit_kept}
use Rattle.check_sched.proofs.RunningLaws.{numbered_kept, once_kept, timed_if, timed_then}
use Rattle.check_sched.proofs.ResultLaws.{kept_are_results}
use Rattle.check_sched.proofs.UpdateLaws.{length-update_at, all-update_at, all-update_at_place, each-changed_at, each-update_at, none_there}
use Rattle.check_saved_state.proofs.SavedLemmas.{all_at}
use Rattle.check_sched.specs.Report.{is_host_up, new_standing, next_after}

-- an object that is scheduled is one of the setup's
pub is_an_object : (s : State) (n : ℕ) (o : Scheduling) → length s.objects ≡ object_count s.setup → slice_get s.objects n ≡ Some o → n < object_count s.setup
is_an_object s n o each e = let in_range = slice_get_within s.objects n o e in omega (arith, in_range, each)

-- ---- the limits of an object

-- the limits of an object's numbers
pub object_in_range : (setup : Configuration) (n : ℕ) (o : NamedObject) → IsSetup setup → slice_get (objects_of setup) n ≡ Some o → is_object_in_range o.object ≡ true
object_in_range setup n o h e = all_at (λ x. is_object_in_range x.object) (objects_of setup) n o h.ranges e

pub one_attempt : (o : Object) → is_object_in_range o ≡ true → 1 ≤ o.max_check_attempts
one_attempt o e = grind (arith, nat_tests, e)

pub few_attempts : (o : Object) → is_object_in_range o ≡ true → o.max_check_attempts ≤ 255
few_attempts o e = grind (arith, nat_tests, e)

attempts_by : (setup : Configuration) (n : ℕ) (found : Option NamedObject) → IsSetup setup → slice_get (objects_of setup) n ≡ found
    → 1 ≤ option_map_or (λ o. o.object.max_check_attempts) found 1
attempts_by setup n None h e = omega arith
attempts_by setup n (Some o) h e = one_attempt o.object (object_in_range setup n o h e)

-- an object has one check attempt at least
pub nonzero_attempts : (setup : Configuration) (n : ℕ) → IsSetup setup → 1 ≤ max_attempts_of setup n
nonzero_attempts setup n h = attempts_by setup n (slice_get (objects_of setup) n) h refl

-- the maximum of attempts of an object that is there
pub max_attempts_at : (found : Option NamedObject) (o : Object) → option_map (λ x. x.object) found ≡ Some o
    → o.max_check_attempts ≡ option_map_or (λ x. x.object.max_check_attempts) found 1
max_attempts_at None o e = cc
max_attempts_at (Some x) o e = let same : x.object ≡ o = cc in ap (λ y. y.max_check_attempts) (sym same)

-- ---- the standing

-- an object can have the standing that a result gives it
-- the last hard state of an object is one of its sort, read as pending where it was never checked,
checked_sort_by : (before : Standing) (host checked : Bool) → is_host_state before.state ≡ host → is_host_state before.last_hard ≡ host
    → is_host_state (cond checked before (pending_standing (is_host_state before.state))).last_hard ≡ host
checked_sort_by before host true sort hard = hard
checked_sort_by before host false sort hard = pending_sort (is_host_state before.state) ∙ sort

checked_sort : (before : Standing) (host : Bool) → is_host_state before.state ≡ host → is_host_state before.last_hard ≡ host
    → is_host_state (as_checked before).last_hard ≡ host
checked_sort before host sort hard = checked_sort_by before host before.checked sort hard

-- and after a result of its sort
last_hard_sort : (after : Kind) (found before : rules.State) (host : Bool) → is_host_state found ≡ host → is_host_state before ≡ host
    → is_host_state (last_hard_after after found before) ≡ host
last_hard_sort kind.Hard found before host e f = e
last_hard_sort kind.Soft found before host e f = f

pub judged_is_standing : (setup : Configuration) (standings : List Standing) (n : ℕ) (found : rules.State) (flapping : Bool) → IsSetup setup
    → is_host_state found ≡ is_host setup n → IsStandingOf setup n (standing_at standings n)
    → IsStandingOf setup n (new_standing setup standings n found flapping)
judged_is_standing setup standings n found flapping h sort b = record {
  lawful =
      verdict_is_lawful (standing_at standings n) found (max_attempts_of setup n) (is_host_up (host_of setup n) standings) flapping
      (nonzero_attempts setup n h) b.lawful;
  sort = sort;
  last_hard_sort =
      last_hard_sort (kind_and_attempt (as_checked (standing_at standings n)) found (max_attempts_of setup n) (is_host_up (host_of setup n) standings)).0
      found (as_checked (standing_at standings n)).last_hard (is_host setup n) sort (checked_sort (standing_at standings n) (is_host setup n) b.sort b.last_hard_sort);
  until_checked = λ never. cc;
}

-- a verdict goes by whether the host is up where a problem was found, and by nothing else
pub verdict_by_host : (before : Standing) (found : rules.State) (max : ℕ) (one other flapping : Bool) → (is_problem found ≡ true → one ≡ other)
    → verdict_on before found max one flapping ≡ verdict_on before found max other flapping
verdict_by_host before state.Ok max one other flapping same = refl
verdict_by_host before state.Up max one other flapping same = refl
verdict_by_host before found max one other flapping same = ap (λ up. verdict_on before found max up flapping) (same refl)

-- ---- the next time

pub check_in_range : (o : Object) → is_object_in_range o ≡ true → o.check_interval ≤ 525600
check_in_range o e = grind (arith, nat_tests, e)

pub retry_in_range : (o : Object) → is_object_in_range o ≡ true → o.retry_interval ≤ 525600
retry_in_range o e = grind (arith, nat_tests, e)

read_by : (setup : Configuration) (n : ℕ) (o : Object) (found : Option NamedObject) → IsSetup setup → slice_get (objects_of setup) n ≡ found
    → option_map (λ x. x.object) found ≡ Some o → is_object_in_range o ≡ true
read_by setup n o None h e f = cc
read_by setup n o (Some x) h e f = let same : x.object ≡ o = cc in subst (λ y. is_object_in_range y ≡ true) same (object_in_range setup n x h e)

-- the same of an object that was read at its place
pub object_read_in_range : (setup : Configuration) (n : ℕ) (o : Object) → IsSetup setup
    → option_map (λ x. x.object) (slice_get (objects_of setup) n) ≡ Some o → is_object_in_range o ≡ true
object_read_in_range setup n o h f = read_by setup n o (slice_get (objects_of setup) n) h refl f

pub time_by : (none : Bool) (time : ℕ) → time ≤ 2 ^ 61 → is_time (cond none None (Some time)) ≡ true
time_by true time h = refl
time_by false time h = grind (arith, nat_tests, h)

-- ---- the state

standing_by : (s : State) (n : ℕ) (found : Option Standing) → IsState s → n < object_count s.setup → slice_get s.standings n ≡ found
    → IsStandingOf s.setup n (unwrap_or found (pending_standing true))
standing_by s n None is_state h e = let past = none_there s.standings n e in absurd (omega (arith, past, h, is_state.one_standing_each))
standing_by s n (Some t) is_state h e = is_state.standings n t e

-- an object that is there has a standing that it can have
pub standing_of_state : (s : State) (n : ℕ) → IsState s → n < object_count s.setup → IsStandingOf s.setup n (standing_at s.standings n)
standing_of_state s n is_state h = standing_by s n (slice_get s.standings n) is_state h refl

-- a run began at 2^60 at the latest
pub run_of_state : (s : State) (n : ℕ) (o : Scheduling) → IsState s → slice_get s.objects n ≡ Some o → is_moment o.run ≡ true
run_of_state s n o is_state e = (and_parts (is_time o.next) (is_moment o.run) (all_at is_in_time s.objects n o is_state.times e)).1

pub start_in_time : (run : Option OpenRun) (r : OpenRun) → is_moment run ≡ true → run ≡ Some r → r.start ≤ 2 ^ 60
start_in_time run r e f = let moment : is_moment (Some r) ≡ true = ap is_moment (sym f) ∙ e in grind (arith, nat_tests, moment)

pub start_of_state : (s : State) (n : ℕ) (o : Scheduling) (r : OpenRun) → IsState s → slice_get s.objects n ≡ Some o → o.run ≡ Some r → r.start ≤ 2 ^ 60
start_of_state s n o r is_state e f = start_in_time o.run r (run_of_state s n o is_state e) f

-- a next time is at most 2^61
pub next_of_state : (s : State) (n : ℕ) (o : Scheduling) → IsState s → slice_get s.objects n ≡ Some o → is_time o.next ≡ true
next_of_state s n o is_state e = (and_parts (is_time o.next) (is_moment o.run) (all_at is_in_time s.objects n o is_state.times e)).0

-- the next time after a report is there where one was set already
pub next_already : (setup : Configuration) (n : ℕ) (standing : Standing) (start : ℕ) (already : Option ℕ) → is_some already ≡ true
    → is_some (next_after setup n standing start already) ≡ true
next_already setup n standing start None e = cc
next_already setup n standing start (Some time) e = refl

-- a report leaves the state one that a scheduler can be in
pub reported_is_state : (n : ℕ) (found : rules.State) (standing : Standing) (next : Option ℕ) (s : State) → IsState s → is_time next ≡ true
    → ((o : Scheduling) → slice_get s.objects n ≡ Some o → is_some o.next ≡ true → is_some next ≡ true)
    → is_host_state found ≡ is_host s.setup n → IsStandingOf s.setup n standing → IsState (state_after_report n found standing next s)
reported_is_state n found standing next s is_state t already sort new = record {
  valid_setup = is_state.valid_setup;
  start = is_state.start;
  one_each = length-update_at n _ s.objects ∙ is_state.one_each;
  one_standing_each = length-update_at n _ s.standings ∙ is_state.one_standing_each;
  results_each = length-update_at n _ s.results ∙ is_state.results_each;
  runs = is_state.runs;
  times = all-update_at is_in_time n (object_after_run next) s.objects is_state.times (λ o e. and_from (is_time next) true t refl);
  limit = limit_kept n (object_after_run next) s (λ o r e. cc) is_state.limit;
  standings = each-update_at (IsStandingOf s.setup) n standing s.standings is_state.standings new;
  numbered = numbered_kept n (object_after_run next) s (λ o r e. cc) is_state.numbered;
  once = once_kept n (object_after_run next) s (λ o r e. cc) is_state.once;
  forced =
      all-update_at_place is_timed_if_forced n (object_after_run next) s.objects is_state.forced
      (λ o in_range timed. timed_if next o.forced (λ forced. already o in_range (timed_then o.next o.forced timed forced)));
  results = each-changed_at (AreResultsOf s.setup) n (λ kept. results_after kept found) s.results is_state.results (kept_are_results s.setup n found sort);
}

-- a time that passes the test is at most 2^61
pub is_time_reads : (next : Option ℕ) → is_time next ≡ true → IfSome next (λ time. time ≤ 2 ^ 61)
is_time_reads None e = tt
is_time_reads (Some time) e = grind (arith, nat_tests, e)

-- ---- Report, by its answers

-- what is true of a Report is what is true of each of its answers
pub report_cases : (P : State × Reply → Type 0) (n run : ℕ) (c : Code) (s : State)
    → ((why : Refusal) → P (s, reply.Refused why))
    → ((o : Scheduling) (r : OpenRun) → slice_get s.objects n ≡ Some o → o.run ≡ Some r → P (report_of_run n r.start c o s))
    → P (step s (call.Report n run c))
report_cases P n run c s refused take =
    by_test P s (existing_object n s) _ refused
    (λ o e. by_test P s (run_under run o.run) _ refused
    (λ r f. take o r (known_is n s o e) (under_is run o.run r f)))

-- by the state that it finds, and by the standing and the next time that it makes
pub report_answers : (n start : ℕ) (c : Code) (already : Option ℕ) (s : State) (found : rules.State) (standing : Standing) (next : Option ℕ)
    → found ≡ state_found_in s n c → standing ≡ new_standing_in s n found → next ≡ next_after s.setup n standing start already
    → report_result n start c already s ≡ (state_after_report n found standing next s, standing_reply n standing next s)
report_answers n start c already s found standing next i j k =
    ap (λ u. answered u (new_standing_in s n u) (next_after s.setup n (new_standing_in s n u) start already)) (sym i)
    ∙ ap (λ t. answered found t (next_after s.setup n t start already)) (sym j)
    ∙ ap (λ x. answered found standing x) (sym k)
  where
    answered : rules.State → Standing → Option ℕ → State × Reply
    answered u t x = (state_after_report n u t x s, standing_reply n t x s)

-- ---- what is read at a place

-- the element at a place, as the code reads it
pub read_at : {X : Type 0} (xs : List X) (n : ℕ) (x : X) → n < length xs → x ≡ get_or xs n x → slice_get xs n ≡ Some x
read_at xs n x h e = slice_get_read xs (length xs) n x refl h e

-- the standing at a place, as the code reads it
pub standing_read : (standings : List Standing) (n : ℕ) (before : Standing) → n < length standings → before ≡ get_or standings n before
    → standing_at standings n ≡ before
standing_read standings n before h e = ap (λ found. unwrap_or found (pending_standing true)) (read_at standings n before h e)

pub standing_index : (standings : List Standing) (n : ℕ) (d : Standing) → n < length standings → standing_at standings n ≡ get_or standings n d
standing_index standings n d h = ap (λ found. unwrap_or found (pending_standing true)) (slice_get-get_or standings n d h)

-- a time that is at most 2^61 passes the test
pub is_time_holds : (next : Option ℕ) → IfSome next (λ time. time ≤ 2 ^ 61) → is_time next ≡ true
is_time_holds None h = refl
is_time_holds (Some time) h = grind (arith, nat_tests, h)
