-- The state of a scheduler as contracts see it, and the state with which a scheduler opens.
use Rattle.std.specs.Prelude.{ℕ, ◌^◌, ◌<◌, ◌≤◌, ◌≡◌, ◌||◌, ◌==◌, Bool, true, false, List, [], length, map, zip, drop, replicate, count_by, Option, Some}
use Rattle.std.specs.Prelude.{None, is_some, option_map, option_and_then, slice_get, nat_lt, unwrap_or, if◌then◌else◌}
use Rattle.std.specs.List.{list_all, enumerate_from}
use Rattle.std.specs.Option.{option_map_or}
use Rattle.check_objects.specs.Configuration.{Configuration, objects_of, object_count, host_count, IsSetup}
use Rattle.check_states.specs.declared.standing.Standing.{Standing}
use Rattle.check_states.specs.declared.state.State as rules
use Rattle.check_states.specs.Standing.{IsStandingFor, pending_standing}
use Rattle.check_sched.specs.Scheduling.{opening_object}
use Rattle.check_saved_state.specs.Scheduling.{Scheduling, is_in_time, is_timed_if_forced}
use Rattle.check_states.specs.Flapping.{AreResultsFor}
use Rattle.check_spread.specs.Spread.{initial_times}

pub record State : Type 0 where
  pub setup : Configuration
  -- the moment at which scheduling started
  pub start : ℕ
  -- the scheduling of each object, by number
  pub objects : List Scheduling
  -- the standing of each object, by number
  pub standings : List Standing
  -- the stored results of each object, by number: the states that its last checks found, the oldest first
  pub results : List (List rules.State)
  -- the number of runs that were handed out
  pub runs : ℕ

-- the time of the next check of the object with this number, if one is set
abbrev pub next_of : ℕ → State → Option ℕ
next_of number s = option_and_then (λ o. o.next) (slice_get s.objects number)

-- the number of the run of the object with this number, if it is being checked
abbrev pub run_number_of : ℕ → State → Option ℕ
run_number_of number s = option_map (λ r. r.number) (option_and_then (λ o. o.run) (slice_get s.objects number))

-- the standing of the object with this number
abbrev pub standing_at : List Standing → ℕ → Standing
standing_at standings number = unwrap_or (slice_get standings number) (pending_standing true)

-- the stored results of the object with this number
abbrev pub results_at : List (List rules.State) → ℕ → List rules.State
results_at results number = unwrap_or (slice_get results number) []

-- the scheduling of the object with this number
abbrev pub scheduling_at : List Scheduling → ℕ → Scheduling
scheduling_at objects number = unwrap_or (slice_get objects number) (opening_object None false)

-- whether the object with this number is a host: hosts have the first numbers
abbrev pub is_host : Configuration → ℕ → Bool
is_host setup number = nat_lt number (host_count setup)

-- the maximum of check attempts of the object with this number
abbrev pub max_attempts_of : Configuration → ℕ → ℕ
max_attempts_of setup number = option_map_or (λ o. o.object.max_check_attempts) (slice_get (objects_of setup) number) 1

-- The low and the high flap threshold of the object with this number, in percent: those of hosts for a host, and those of services for a service.
-- ("Detection and Handling of State Flapping".)
abbrev pub flap_thresholds_of : Configuration → ℕ → ℕ × ℕ
flap_thresholds_of setup number =
    if is_host setup number
    then (setup.options.low_host_flap_threshold, setup.options.high_host_flap_threshold)
    else (setup.options.low_service_flap_threshold, setup.options.high_service_flap_threshold)

-- ---- the limit of running checks

-- the number of checks of services that may run at the same time; 0 means no limit ("Main Configuration File Options", max_concurrent_checks)
abbrev pub limit_of : Configuration → ℕ
limit_of setup = setup.options.max_concurrent_checks

-- the services, in the order of their numbers: hosts have the first numbers
abbrev pub services_of : State → List Scheduling
services_of s = drop (host_count s.setup) s.objects

-- the number of services that are being checked, forced checks included
abbrev pub running_services : State → ℕ
running_services s = count_by (λ o. is_some o.run) (services_of s)

-- whether one more service may be checked
abbrev pub is_below_limit : State → Bool
is_below_limit s = limit_of s.setup == 0 || nat_lt (running_services s) (limit_of s.setup)

-- no more services are being checked than the limit allows; a limit of 0 allows any number
abbrev pub IsWithinLimit : State → Type 0
IsWithinLimit s = 0 < limit_of s.setup → running_services s ≤ limit_of s.setup

-- ---- the opening

-- objects with the times of their first checks, each enabled as the setup says
abbrev pub objects_at : Configuration → List (Option ℕ) → List Scheduling
objects_at setup times = map (λ p. opening_object p.0 p.1.object.enabled) (zip times (objects_of setup))

-- The first checks are spread over time ("Service and Host Check Scheduling", initial scheduling).
abbrev pub opening_objects : Configuration → ℕ → List Scheduling
opening_objects setup start = objects_at setup (initial_times setup start)

-- no object was ever checked
abbrev pub opening_standings : Configuration → List Standing
opening_standings setup = map (λ p. pending_standing (is_host setup p.0)) (enumerate_from 0 (objects_of setup))

-- no object has a stored result
abbrev pub opening_results : Configuration → List (List rules.State)
opening_results setup = replicate (object_count setup) []

-- the state with which a scheduler opens: no run was handed out
abbrev pub opening : Configuration → ℕ → State
opening setup start = record {
  setup = setup;
  start = start;
  objects = opening_objects setup start;
  standings = opening_standings setup;
  results = opening_results setup;
  runs = 0;
}

-- ---- the facts of every scheduler

-- the object with this number is pending if it was never checked
abbrev pub IsPendingUntilChecked : Configuration → ℕ → Standing → Type 0
IsPendingUntilChecked setup number standing = standing.checked ≡ false → standing ≡ pending_standing (is_host setup number)

-- the object with this number can have this standing
abbrev pub IsStandingOf : Configuration → ℕ → Standing → Type 0
IsStandingOf setup number standing = IsStandingFor (is_host setup number) (max_attempts_of setup number) standing

-- the object with this number can have these results
abbrev pub AreResultsOf : Configuration → ℕ → List rules.State → Type 0
AreResultsOf setup number results = AreResultsFor (is_host setup number) results

-- the facts of every state that a scheduler can be in
pub record IsState (s : State) : Type 0 where
  pub valid_setup : IsSetup s.setup
  pub start : s.start ≤ 2 ^ 60
  pub one_each : length s.objects ≡ object_count s.setup
  pub one_standing_each : length s.standings ≡ object_count s.setup
  pub results_each : length s.results ≡ object_count s.setup
  pub runs : s.runs ≤ 2 ^ 60
  pub times : list_all is_in_time s.objects ≡ true
  pub limit : IsWithinLimit s
  pub standings : (number : ℕ) (standing : Standing) → slice_get s.standings number ≡ Some standing → IsStandingOf s.setup number standing
  -- each run has one of the numbers that were handed out, and no two runs have the same number
  pub numbered : (number run : ℕ) → run_number_of number s ≡ Some run → (1 ≤ run) × (run ≤ s.runs)
  pub once : (one other run : ℕ) → run_number_of one s ≡ Some run → run_number_of other s ≡ Some run → one ≡ other
  pub forced : list_all is_timed_if_forced s.objects ≡ true
  pub results : (number : ℕ) (results : List rules.State) → slice_get s.results number ≡ Some results → AreResultsOf s.setup number results
