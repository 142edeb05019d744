-- The effect of a check's result on an object, and the time to which an object is put off.
use Rattle.std.specs.Prelude.{ℕ, Bool, true, not, List, Option, Some, None, option_and_then, slice_get}
use Rattle.std.specs.Option.{option_or}
use Rattle.check_objects.specs.Configuration.{Configuration, objects_of, host_of}
use Rattle.check_states.specs.declared.state.Code.{Code}
use Rattle.check_states.specs.declared.state.State.{State}
use Rattle.check_states.specs.declared.standing.Standing.{Standing}
use Rattle.check_states.specs.State.{service_state_of}
use Rattle.check_states.specs.Flapping.{is_flapping, results_after}
use Rattle.check_states.specs.Standing.{is_down}
use Rattle.check_rules.specs.Reachability.{host_state_of}
use Rattle.check_states.specs.Verdict.{verdict_on}
use Rattle.check_sched.specs.Intervals.{interval_for_standing, intervals_for, time_after}
use Rattle.check_sched.specs.State.{flap_thresholds_of, max_attempts_of, results_at, standing_at}

-- The meaning of the return code of an object's check, as a state. A service has a host. The state of a host depends on its parents. ("Host Checks",
-- "Plugin API".)
abbrev pub state_found_by : Option ℕ → Configuration → List Standing → ℕ → Code → State
state_found_by None setup standings number code = host_state_of setup standings number code
state_found_by (Some host) setup standings number code = service_state_of code

abbrev pub state_found : Configuration → List Standing → ℕ → Code → State
state_found setup standings number code = state_found_by (host_of setup number) setup standings number code

-- Whether the host, if there is one, isn't down now. ("State Types"; our own profile uses the host's
-- current state.)
abbrev pub is_host_up : Option ℕ → List Standing → Bool
is_host_up None standings = true
is_host_up (Some host) standings = not (is_down (standing_at standings host))

-- The standing of an object after a check that found this state, flapping or not. The verdict on a
-- service depends on whether its host is down.
abbrev pub new_standing : Configuration → List Standing → ℕ → State → Bool → Standing
new_standing setup standings number found flapping =
    verdict_on (standing_at standings number) found (max_attempts_of setup number) (is_host_up (host_of setup number) standings) flapping

-- Whether an object flaps after a check that found this state. It depends on the stored results with
-- this one, on whether the object flapped before, and on the thresholds of hosts or of services.
-- ("Detection and Handling of State Flapping".)
abbrev pub flaps_with : Configuration → List Standing → List (List State) → ℕ → State → Bool
flaps_with setup standings results number found =
    is_flapping (results_after (results_at results number) found) (standing_at standings number).flapping
    (flap_thresholds_of setup number).0 (flap_thresholds_of setup number).1

-- The next time after a report of a check that began at start. A time that was set while the check ran stays. Otherwise the next time is the interval
-- after the start. (Our own profile.)
abbrev pub next_after : Configuration → ℕ → Standing → ℕ → Option ℕ → Option ℕ
next_after setup number standing start already =
    option_or already
    (option_and_then (λ o. time_after start (interval_for_standing (intervals_for setup o.object) standing)) (slice_get (objects_of setup) number))

-- The time to which an object is put off if its dependency fails: the check interval after the moment of the call, and None if the interval is 0.
-- (Our own profile.)
abbrev pub put_off_until : Configuration → ℕ → ℕ → Option ℕ
put_off_until setup number now = option_and_then (λ o. time_after now (intervals_for setup o.object).check) (slice_get (objects_of setup) number)
