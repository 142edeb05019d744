-- Every standing that comes of calls is one that its object can have.
use Rattle.std.proofs.Common.{◌≡◌, ℕ, ◌+◌, ◌-◌, ◌<◌, ◌≤◌, Bool, true, false, cond, List, [], ◌∷◌, length, Option, Some, None, refl, sym, subst, ◌∙◌, arith}
use Rattle.std.specs.Prelude.{option_map, slice_get, nat_lt, unwrap_or}
use Rattle.std.proofs.lemmas.Bool.Decides.{nat_tests}
use Rattle.ticket_steps.specs.declared.books.Entry.{Entry}
use Rattle.ticket_steps.specs.History.{replay}
use Rattle.check_objects.specs.Configuration.{Configuration, IsSetup, Service, host_count, object_count, parents_of}
use Rattle.check_spread.specs.Spread.{first_times, host_objects, host_spread, initial_times, service_objects, service_spread}
use Rattle.check_spread.proofs.TimesLemmas.{length-all_objects, length-first_times}
use Rattle.std.proofs.lemmas.List.{length-append}
use Rattle.check_states.specs.declared.standing.Standing.{Standing}
use Rattle.check_states.specs.declared.state.Code.{Code}
use Rattle.check_states.specs.declared.state.Code.TheVariants as code
use Rattle.check_states.specs.declared.state.State.TheVariants as state
use Rattle.check_rules.specs.Reachability.{host_state_of, is_cut_off, is_problem_of_host}
use Rattle.check_states.specs.Standing.{pending_standing}
use Rattle.check_states.specs.State.{is_host_state, service_state_of}
use Rattle.check_sched.specs.declared.call.Call.{Call}
use Rattle.check_sched.specs.declared.call.Call.TheVariants as call
use Rattle.check_sched.specs.declared.call.Reply.{Reply}
use Rattle.check_sched.specs.Report.{flaps_with, state_found_by}
use Rattle.check_saved_state.specs.Scheduling.{Scheduling}
use Rattle.check_sched.specs.State.{State, IsState, IsStandingOf, is_host, opening, standing_at}
use Rattle.check_sched.specs.Step.{state_found_in, new_standing_in, step, update_at}
use Rattle.check_sched.proofs.OpeningLaws.{count_is, first_standings, length-objects_at, length-opening_standings}
use Rattle.check_sched.proofs.OperatorLaws.{abandon_cases, enable_cases, reschedule_cases, status_cases}
use Rattle.check_sched.proofs.ReportLaws.{is_an_object, judged_is_standing, report_cases}
use Rattle.check_sched.proofs.StepLaws.{step_keeps}
use Rattle.check_sched.proofs.TakeLaws.{take_cases}
use Rattle.check_sched.proofs.UpdateLaws.{each-update_at, length-update_at, none_there}

-- ---- the sort of a state that a check found

host_sort_by : (problem cut_off : Bool) → is_host_state (cond problem (cond cut_off state.Unreachable state.Down) state.Up) ≡ true
host_sort_by true true = refl
host_sort_by true false = refl
host_sort_by false cut_off = refl

host_sort : (setup : Configuration) (standings : List Standing) (n : ℕ) (c : Code) → is_host_state (host_state_of setup standings n c) ≡ true
host_sort setup standings n c =
    host_sort_by (is_problem_of_host setup.options.use_aggressive_host_checking c) (is_cut_off standings (parents_of setup n))

service_sort : (c : Code) → is_host_state (service_state_of c) ≡ false
service_sort code.Ok = refl
service_sort code.Warning = refl
service_sort code.Critical = refl
service_sort code.Unknown = refl

sort_by : (setup : Configuration) (standings : List Standing) (n : ℕ) (c : Code) (host : Bool) (found : Option Service)
    → (host ≡ false → found ≡ None → ⊥)
    → is_host_state (state_found_by (cond host None (option_map (λ s. s.host) found)) setup standings n c) ≡ host
sort_by setup standings n c true found in_range = host_sort setup standings n c
sort_by setup standings n c false None in_range = absurd (in_range refl refl)
sort_by setup standings n c false (Some s) in_range = service_sort c

-- a check of a host finds a state of hosts, one of a service a state of services
pub found_sort : (s : State) (n : ℕ) (c : Code) → n < object_count s.setup → is_host_state (state_found_in s n c) ≡ is_host s.setup n
found_sort s n c in_range =
    sort_by s.setup s.standings n c (nat_lt n (host_count s.setup)) (slice_get s.setup.services (n - host_count s.setup))
    (λ past none.
    let gone = none_there s.setup.services (n - host_count s.setup) none in
    let count = count_is s.setup in
    let behind = not_less n (host_count s.setup) past in
    omega (arith, gone, count, behind, in_range))
  where
    not_less : (a b : ℕ) → nat_lt a b ≡ false → b ≤ a
    not_less a b e = grind (arith, nat_tests, e)

-- ---- what stays

-- of a setup, each of whose objects has a standing that it can have
pub record IsGood (s : State) : Type 0 where
  pub setup : IsSetup s.setup
  pub one_each : length s.objects ≡ object_count s.setup
  pub one_standing_each : length s.standings ≡ object_count s.setup
  pub standings : (n : ℕ) (t : Standing) → slice_get s.standings n ≡ Some t → IsStandingOf s.setup n t

standing_by : (s : State) (n : ℕ) (found : Option Standing) → IsGood s → n < object_count s.setup → slice_get s.standings n ≡ found
    → IsStandingOf s.setup n (unwrap_or found (pending_standing true))
standing_by s n None good in_range e = let past = none_there s.standings n e in absurd (omega (arith, past, in_range, good.one_standing_each))
standing_by s n (Some t) good in_range e = good.standings n t e

standing_good : (s : State) (n : ℕ) → IsGood s → n < object_count s.setup → IsStandingOf s.setup n (standing_at s.standings n)
standing_good s n good in_range = standing_by s n (slice_get s.standings n) good in_range refl

-- another scheduling of one object
object_good : (n runs : ℕ) (f : Scheduling → Scheduling) (s : State) → IsGood s
    → let after : State =
    record { setup = s.setup; start = s.start; objects = update_at n f s.objects; standings = s.standings; results = s.results; runs = runs } in IsGood after
object_good n runs f s good = record {
  setup = good.setup;
  one_each = length-update_at n f s.objects ∙ good.one_each;
  one_standing_each = good.one_standing_each;
  standings = good.standings;
}

step_good : (s : State) (c : Call) → IsGood s → IsGood (step s c).0
step_good s (call.Take now) good =
    take_cases (λ a. IsGood a.0) now s (λ why. good) (λ c m e. object_good c.1 s.runs _ s good) (λ c m r e. object_good c.1 (s.runs + 1) _ s good) (λ e. good)
step_good s (call.Report n run c) good =
    report_cases (λ a. IsGood a.0) n run c s (λ why. good)
    (λ o r e f.
    let in_range = is_an_object s n o good.one_each e in
    let found = state_found_in s n c in
    record {
      setup = good.setup;
      one_each = length-update_at n _ s.objects ∙ good.one_each;
      one_standing_each = length-update_at n _ s.standings ∙ good.one_standing_each;
      standings =
          each-update_at (IsStandingOf s.setup) n (new_standing_in s n found) s.standings good.standings
          (judged_is_standing s.setup s.standings n found (flaps_with s.setup s.standings s.results n found) good.setup (found_sort s n c in_range)
          (standing_good s n good in_range));
    })
step_good s (call.Abandon n run now) good = abandon_cases (λ a. IsGood a.0) n run now s (λ why. good) (λ o e m. object_good n s.runs _ s good)
step_good s (call.Reschedule n time forced) good =
    reschedule_cases (λ a. IsGood a.0) n time forced s (λ why. good) (λ m. object_good n s.runs _ s good)
step_good s (call.Enable n on) good = enable_cases (λ a. IsGood a.0) n on s (λ why. good) (object_good n s.runs _ s good)
step_good s (call.Status n) good = status_cases (λ a. IsGood a.0) n s (λ why. good) (λ o e. good)

replay_good : (s : State) (history : List (Entry Call Reply)) → IsGood s → IsGood (replay step s history)
replay_good s [] good = good
replay_good s (e ∷ history) good = replay_good (step s e.call).0 history (step_good s e.call good)

pub replay_setup : (s : State) (history : List (Entry Call Reply)) → (replay step s history).setup ≡ s.setup
replay_setup s [] = refl
replay_setup s (e ∷ history) = replay_setup (step s e.call).0 history ∙ (step_keeps s e.call).setup

-- ---- the opening

pub length-initial_times : (setup : Configuration) (start : ℕ) → length (initial_times setup start) ≡ object_count setup
unfolding initial_times
length-initial_times setup start =
    let hosts = length-first_times (host_spread setup start) (host_objects setup) in
    let services = length-first_times (service_spread setup start) (service_objects setup) in
    let both = length-append (first_times (host_spread setup start) (host_objects setup)) (first_times (service_spread setup start) (service_objects setup)) in
    let objects = length-append (host_objects setup) (service_objects setup) in
    let all = length-all_objects setup in
    omega (arith, hosts, services, both, objects, all)

-- a scheduler opens with a scheduling for each object
pub opening_count : (setup : Configuration) (start : ℕ) → length (opening setup start).objects ≡ object_count setup
opening_count setup start = length-objects_at setup (initial_times setup start) (length-initial_times setup start)

opening_good : (setup : Configuration) (start : ℕ) → IsSetup setup → IsGood (opening setup start)
opening_good setup start h = record {
  setup = h;
  one_each = opening_count setup start;
  one_standing_each = length-opening_standings setup;
  standings = first_standings setup h;
}

-- ---- calls one after another

-- Whatever calls are made from a good state on, each object has a standing that it can have.
good_standing : (opened : State) (history : List (Entry Call Reply)) (n : ℕ) → IsGood opened → n < object_count opened.setup
    → IsStandingOf opened.setup n (standing_at (replay step opened history).standings n)
good_standing opened history n good in_range =
    let s = replay step opened history in
    let same : s.setup ≡ opened.setup = replay_setup opened history in
    let in_setup : n < object_count s.setup = subst (λ c. n < object_count c) (sym same) in_range in
    subst (λ c. IsStandingOf c n (standing_at s.standings n)) same (standing_good s n (replay_good opened history good) in_setup)

-- So it is from every state on that a scheduler can be in,
pub state_standing : (opened : State) (history : List (Entry Call Reply)) (n : ℕ) → IsState opened → n < object_count opened.setup
    → IsStandingOf opened.setup n (standing_at (replay step opened history).standings n)
state_standing opened history n h in_range =
    good_standing opened history n
    (record { setup = h.valid_setup; one_each = h.one_each; one_standing_each = h.one_standing_each; standings = h.standings }) in_range

-- and of a scheduler that was opened.
pub opened_standing : (setup : Configuration) (start : ℕ) (history : List (Entry Call Reply)) (n : ℕ) → IsSetup setup → n < object_count setup
    → IsStandingOf setup n (standing_at (replay step (opening setup start) history).standings n)
opened_standing setup start history n h in_range = good_standing (opening setup start) history n (opening_good setup start h) in_range
