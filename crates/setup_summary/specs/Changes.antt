-- The changes that a resume from a saved state over a setup makes.
use Rattle.std.specs.Prelude.{ℕ, ◌==◌, ◌&&◌, Bool, false, not, nat_lt, List, [], count_by, drop, Option, Some, None, is_none, is_some, option_map, zip}
use Rattle.std.specs.Prelude.{if◌then◌else◌}
use Rattle.setup_model.specs.declared.parsed_setup.Object.{Object}
use Rattle.check_objects.specs.Configuration.{Configuration, host_count, number_by_name, objects_of}
use Rattle.check_saved_state.specs.Saved.{Saved, SavedObject, saved_by_name}
use Rattle.check_saved_state.specs.Scheduling.{Scheduling}
use Rattle.check_sched.specs.Roster.{running_among}
use Rattle.check_sched.specs.Saved.{each_object, is_same_switch, keeps_limit, objects_kept}
use Rattle.check_sched.specs.State.{limit_of}
use Rattle.check_spread.specs.Spread.{milliseconds}
use Rattle.setup_summary.specs.declared.figures.Figures.{Figures}
use Rattle.setup_summary.specs.declared.diffs.ObjectDiff.{ObjectDiff}

-- ---- one object

-- an object that is kept: whether it is out, and which of its three values the setup changes
abbrev pub object_diff : Configuration → Object → SavedObject → ObjectDiff
object_diff setup object saved = record {
  running = is_some saved.scheduling.run;
  attempts = not (object.max_check_attempts == saved.max_attempts);
  interval = not (milliseconds setup object.check_interval == saved.interval);
  enabled = not (is_same_switch object.enabled saved.setup_enabled);
}

-- every object of the setup by number, kept or new
abbrev pub object_diffs : Configuration → Saved → List (Option ObjectDiff)
object_diffs setup saved = each_object setup (λ p. option_map (object_diff setup p.1.object) (saved_by_name saved p.1.name))

-- ---- how many

-- objects of the setup whose full names the saved state has
abbrev pub kept_count : Configuration → Saved → ℕ
kept_count setup saved = count_by (λ n. is_some (saved_by_name saved n.name)) (objects_of setup)

-- objects of the setup whose full names it hasn't
abbrev pub new_count : Configuration → Saved → ℕ
new_count setup saved = count_by (λ n. is_none (saved_by_name saved n.name)) (objects_of setup)

-- objects of the saved state whose full names the setup hasn't
abbrev pub dropped_count : Configuration → Saved → ℕ
dropped_count setup saved = count_by (λ o. is_none (number_by_name setup o.name)) saved.objects

-- The scheduling of every object before the limit is applied. First times don't affect which objects are out, so no times are given.
abbrev pub objects_before_limit : Configuration → Saved → List Scheduling
objects_before_limit setup saved = objects_kept setup saved []

-- The number of runs that are abandoned because more services are out than the limit allows: then all runs of services that are kept. The run
-- of an object that is dropped goes with it, and isn't counted. It doesn't count against the limit either.
abbrev pub abandoned_count : Configuration → Saved → ℕ
abandoned_count setup saved =
    let objects = objects_before_limit setup saved in
    if keeps_limit setup objects then 0 else running_among (drop (host_count setup) objects)

-- how many objects are out in the first of two lists by number, and aren't in the second
abbrev pub ended_count : List Scheduling → List Scheduling → ℕ
ended_count before after = count_by (λ p. is_some p.0.run && is_none p.1.run) (zip before after)

-- whether an object is kept and out
abbrev pub is_running : Option ObjectDiff → Bool
is_running None = false
is_running (Some k) = k.running

-- whether more of these services are out than the limit allows; 0 is no limit
abbrev pub are_too_many : Configuration → List (Option ObjectDiff) → Bool
are_too_many setup services = not (limit_of setup == 0) && nat_lt (limit_of setup) (count_by is_running services)

-- the same count for the objects by number: the services that are out, if they are too many
unfoldable pub abandoned_count_among : Configuration → List (Option ObjectDiff) → ℕ
abandoned_count_among setup kept =
    let services = drop (host_count setup) kept in count_by (λ o. are_too_many setup services && is_running o) services

abbrev pub figures_of : Configuration → Saved → Figures
figures_of setup saved = record {
  kept = kept_count setup saved;
  new = new_count setup saved;
  dropped = dropped_count setup saved;
  given_up = abandoned_count setup saved;
}
