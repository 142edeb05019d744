-- The saved state of a scheduler, and the state of a scheduler that is resumed from it, over the same setup or over another.
-- (Our own profile; Nagios uses retention files, and reads them again at a restart and a reload.)
use Rattle.std.specs.Prelude.{ℕ, ◌-◌, ◌==◌, ◌&&◌, ◌||◌, Bool, true, false, not, List, [], ◌++◌, map, take, drop, min}
use Rattle.std.specs.Prelude.{Option, Some, None, is_some, option_and_then, option_map, slice_get, nat_lt, unwrap_or, if◌then◌else◌}
use Rattle.std.specs.List.{enumerate_from}
use Rattle.setup_model.specs.declared.parsed_setup.Object.{Object}
use Rattle.check_objects.specs.Configuration.{Configuration, NamedObject, host_count, name_of, objects_of}
use Rattle.check_states.specs.declared.state.State as rules
use Rattle.check_states.specs.declared.standing.Kind.TheVariants as kind
use Rattle.check_states.specs.declared.standing.Standing.{Standing}
use Rattle.check_states.specs.Standing.{is_soft_problem, pending_standing}
use Rattle.check_states.specs.State.{is_problem}
use Rattle.check_sched.specs.Roster.{running_among}
use Rattle.check_sched.specs.Scheduling.{object_after_run, freed_time, opening_object}
use Rattle.check_saved_state.specs.Saved.{Saved, SavedObject, saved_by_name}
use Rattle.check_saved_state.specs.Scheduling.{Scheduling}
use Rattle.check_sched.specs.State.{State, is_host, limit_of, results_at, scheduling_at, standing_at}
use Rattle.check_spread.specs.Spread.{initial_times, milliseconds}
use Rattle.check_states.specs.Times.{earlier}

-- ---- the saved state

-- the saved object for the object with this number
abbrev pub saved_object : State → ℕ × NamedObject → SavedObject
saved_object s p = record {
  name = p.1.name;
  standing = standing_at s.standings p.0;
  results = results_at s.results p.0;
  scheduling = scheduling_at s.objects p.0;
  interval = milliseconds s.setup p.1.object.check_interval;
  max_attempts = p.1.object.max_check_attempts;
  setup_enabled = p.1.object.enabled;
}

-- the saved state of a scheduler in this state
abbrev pub saved_of : State → Saved
saved_of s = record { start = s.start; runs = s.runs; objects = map (saved_object s) (enumerate_from 0 (objects_of s.setup)) }

-- ---- one object that is kept

-- A soft problem with this new maximum of attempts. It stays soft, with an attempt below the maximum, and becomes hard if the maximum is 1.
abbrev pub soft_kept : ℕ → Standing → Standing
soft_kept max was =
    if max == 1 then record was { kind = kind.Hard; attempt = 1; last_hard = was.state } else record was { attempt = min was.attempt (max - 1) }

-- The standing of an object with this new maximum of attempts. A hard problem gets the maximum as its attempt. OK and UP keep their attempt, up to
-- the maximum.
abbrev pub standing_kept : ℕ → Standing → Standing
standing_kept max was =
    if is_soft_problem was then soft_kept max was else if is_problem was.state then record was { attempt = max } else record was { attempt = min was.attempt max }

-- whether two switches are equal
abbrev pub is_same_switch : Bool → Bool → Bool
is_same_switch true other = other
is_same_switch false other = not other

-- Whether the saved next time stays: the check interval and the setup's switch are the same, or the object is being checked, or its next check is
-- forced.
abbrev pub keeps_time : Configuration → Object → SavedObject → Bool
keeps_time setup object saved =
    (milliseconds setup object.check_interval == saved.interval && is_same_switch object.enabled saved.setup_enabled)
    || is_some saved.scheduling.run || saved.scheduling.forced

-- The scheduling of an object with this first time by the setup's spread. A switch that an operator set stays if both setups have the same
-- switch for the object.
abbrev pub scheduling_kept : Configuration → Option ℕ → Object → SavedObject → Scheduling
scheduling_kept setup first object saved = record {
  next = if keeps_time setup object saved then saved.scheduling.next else earlier saved.scheduling.next first;
  run = saved.scheduling.run;
  enabled = if is_same_switch object.enabled saved.setup_enabled then saved.scheduling.enabled else object.enabled;
  forced = saved.scheduling.forced;
}

-- ---- every object of a setup: kept if its name was saved, otherwise new

abbrev pub scheduling_after_resume : Configuration → Option ℕ → Object → Option SavedObject → Scheduling
scheduling_after_resume setup first object None = opening_object first object.enabled
scheduling_after_resume setup first object (Some saved) = scheduling_kept setup first object saved

abbrev pub standing_after_resume : Bool → Object → Option SavedObject → Standing
standing_after_resume host object None = pending_standing host
standing_after_resume host object (Some saved) = standing_kept object.max_check_attempts saved.standing

abbrev pub results_after_resume : Option SavedObject → List rules.State
results_after_resume None = []
results_after_resume (Some saved) = saved.results

-- ---- the limit of services that are checked at the same time

-- an object whose run, if it has one, is abandoned at this moment
abbrev pub object_after_abandon : ℕ → Scheduling → Scheduling
object_after_abandon now o = if is_some o.run then object_after_run (Some (freed_time now o)) o else o

-- whether no more services are running than the limit allows; a limit of 0 allows any number
abbrev pub keeps_limit : Configuration → List Scheduling → Bool
keeps_limit setup objects = limit_of setup == 0 || not (nat_lt (limit_of setup) (running_among (drop (host_count setup) objects)))

-- If more services are running than the limit allows, the runs of all services are abandoned.
abbrev pub within_limit : Configuration → ℕ → List Scheduling → List Scheduling
within_limit setup now objects =
    let hosts = host_count setup in
    if keeps_limit setup objects then objects else take hosts objects ++ map (object_after_abandon now) (drop hosts objects)

-- ---- the state of a resumed scheduler

-- the first time of the object with this number, among these
abbrev pub time_among : List (Option ℕ) → ℕ → Option ℕ
time_among times number = unwrap_or (slice_get times number) None

-- its first time by the spread from this moment on
abbrev pub first_time : Configuration → ℕ → ℕ → Option ℕ
first_time setup start number = time_among (initial_times setup start) number

-- a value for each object of a setup, by its number
abbrev pub each_object : {X : Type 0} → Configuration → (ℕ × NamedObject → X) → List X
each_object setup made = map made (enumerate_from 0 (objects_of setup))

-- the scheduling of each object, given these first times
abbrev pub objects_kept : Configuration → Saved → List (Option ℕ) → List Scheduling
objects_kept setup saved times =
    each_object setup (λ p. scheduling_after_resume setup (time_among times p.0) p.1.object (saved_by_name saved p.1.name))

abbrev pub objects_after_resume : Configuration → Saved → ℕ → List Scheduling
objects_after_resume setup saved start = within_limit setup start (objects_kept setup saved (initial_times setup start))

abbrev pub standings_after_resume : Configuration → Saved → List Standing
standings_after_resume setup saved = each_object setup (λ p. standing_after_resume (is_host setup p.0) p.1.object (saved_by_name saved p.1.name))

abbrev pub result_lists_after_resume : Configuration → Saved → List (List rules.State)
result_lists_after_resume setup saved = each_object setup (λ p. results_after_resume (saved_by_name saved p.1.name))

-- the state of a scheduler that is resumed over this setup, from this moment on
abbrev pub state_after_resume : Configuration → Saved → ℕ → State
state_after_resume setup saved start = record {
  setup = setup;
  start = start;
  objects = objects_after_resume setup saved start;
  standings = standings_after_resume setup saved;
  results = result_lists_after_resume setup saved;
  runs = saved.runs;
}

-- ---- checks that are still running

-- the number of the run under which the object with this number was being checked when it was saved, if it was
abbrev pub saved_run_number_of : Configuration → Saved → ℕ → Option ℕ
saved_run_number_of setup saved number =
    option_map (λ r. r.number) (option_and_then (λ o. o.scheduling.run) (saved_by_name saved (name_of setup number)))

-- Whether the check of the object with this number continues, if one was running. A host's check always does. A service's check does if no more
-- services are running than the limit allows.
abbrev pub continues_running : Configuration → Saved → ℕ → ℕ → Bool
continues_running setup saved start number = is_host setup number || keeps_limit setup (objects_kept setup saved (initial_times setup start))
