-- Verifies a draft, which has the right shape: one test after another, each over the whole draft.
use Rattle.std.specs.Prelude.{ℕ, ◌^◌, ◌<◌, ◌==◌, ◌&&◌, ◌||◌, Bool, true, false, not, List, length, map, position, Option, Some, None, option_map}
use Rattle.std.specs.Prelude.{Result, Ok, Err, bytes_eq, nat_le, nat_lt, if◌then◌else◌}
use Rattle.std.specs.List.{after_first, before_first, list_all}
use Rattle.setup_model.specs.Agreement.{◌>>=◌, error_at}
use Rattle.setup_model.specs.Keys.{first_repeat}
use Rattle.setup_model.specs.Name.{is_host_name, is_name}
use Rattle.check_states.specs.declared.standing.Kind.{Kind}
use Rattle.check_states.specs.declared.standing.Kind.TheVariants as kind
use Rattle.check_states.specs.declared.standing.Standing.{Standing}
use Rattle.check_states.specs.declared.state.State as rules
use Rattle.check_states.specs.Standing.{is_lawful}
use Rattle.check_states.specs.State.{is_of_sort, is_problem}
use Rattle.check_saved_state.specs.declared.fault.SavedFault.{SavedFault}
use Rattle.check_saved_state.specs.declared.fault.SavedFault.TheVariants as faults
use Rattle.check_saved_state.specs.Saved.{Saved, SavedObject}
use Rattle.check_saved_state.specs.Scheduling.{OpenRun, is_in_time, is_timed_if_forced}
use Rattle.check_states.specs.Times.{earlier}

-- ---- counts

-- at most 4,096 objects
abbrev pub object_count_test : List SavedObject → Result (Unit {0}) SavedFault
object_count_test objects = if nat_lt 4096 (length objects) then Err faults.TooMany else Ok tt

-- ---- names

-- the semicolon between a host's name and a description
abbrev pub is_semicolon : ℕ → Bool
is_semicolon b = b == 59

-- a host's name, or a host's name and a description around the first semicolon
abbrev pub is_full_name : List ℕ → Bool
is_full_name name =
    if is_host_name name then is_name name else (is_name (before_first is_semicolon name) && is_name (after_first is_semicolon name))

-- every object has a full name; otherwise the first object that doesn't
abbrev pub names_test : List SavedObject → Result (Unit {0}) SavedFault
names_test objects = error_at faults.BadName (position (λ o. not (is_full_name o.name)) objects)

-- every name occurs once; otherwise the first object with the name of an earlier one
abbrev pub distinct_names_test : List SavedObject → Result (Unit {0}) SavedFault
distinct_names_test objects = error_at faults.Duplicate (first_repeat bytes_eq (map (λ o. o.name) objects))

-- ---- limits of numbers

-- the number of an attempt, or the maximum of attempts, is 1 to 255
abbrev pub is_attempt : ℕ → Bool
is_attempt n = nat_le 1 n && nat_le n 255

-- An object's attempts and times are within their limits, and its check interval is at most the longest that a setup can have: 525,600 units of a day.
abbrev pub is_in_range : SavedObject → Bool
is_in_range o =
    is_attempt o.standing.attempt && is_attempt o.max_attempts && is_in_time o.scheduling && nat_le o.interval 45411840000000

-- the attempts fit a byte
pub record HasBoundedAttempts (o : SavedObject) : Type 0 where
  pub attempt : o.standing.attempt < 256
  pub max_attempts : o.max_attempts < 256

-- The start and the number of runs handed out are at most 2^60, and the numbers of every object are within their limits. Otherwise it is the first
-- object with a number that isn't.
abbrev pub ranges_test : Saved → Result (Unit {0}) SavedFault
ranges_test saved =
    if nat_lt (2 ^ 60) saved.start || nat_lt (2 ^ 60) saved.runs then Err (faults.Range None)
    else error_at (λ i. faults.Range (Some i)) (position (λ o. not (is_in_range o)) saved.objects)

-- ---- possible objects

abbrev pub is_hard : Kind → Bool
is_hard kind.Soft = false
is_hard kind.Hard = true

-- whether a standing is that of an object that was never checked, except for the sort of its states
abbrev pub is_like_pending : Standing → Bool
is_like_pending s = not (is_problem s.state) && is_hard s.kind && s.attempt == 1 && not (is_problem s.last_hard) && not s.flapping

-- An object with this maximum of attempts can have this standing. The object is a host or a service. The standing is lawful for that maximum, its
-- states are of the object's sort, and until the object is checked it is pending.
abbrev pub is_possible_standing : Bool → ℕ → Standing → Bool
is_possible_standing host max s = is_lawful s max && is_of_sort host s.state && is_of_sort host s.last_hard && (s.checked || is_like_pending s)

-- an object, a host or a service, can have these results: at most 21, each a state of its sort
abbrev pub are_possible_results : Bool → List rules.State → Bool
are_possible_results host results = nat_le (length results) 21 && list_all (is_of_sort host) results

-- a run, if there is one, is one of those that were handed out
abbrev pub has_valid_run : ℕ → Option OpenRun → Bool
has_valid_run runs None = true
has_valid_run runs (Some run) = nat_le 1 run.number && nat_le run.number runs

-- whether an object is possible in a scheduler that handed out this number of runs
abbrev pub is_possible : ℕ → SavedObject → Bool
is_possible runs o =
    is_possible_standing (is_host_name o.name) o.max_attempts o.standing && are_possible_results (is_host_name o.name) o.results
    && has_valid_run runs o.scheduling.run && is_timed_if_forced o.scheduling

-- the number of the run, if there is one
abbrev pub run_number : SavedObject → Option ℕ
run_number o = option_map (λ r. r.number) o.scheduling.run

-- whether two objects run under the same number
abbrev pub is_same_run : Option ℕ → Option ℕ → Bool
is_same_run (Some one) (Some other) = one == other
is_same_run (Some one) None = false
is_same_run None other = false

-- Every object is possible, and no two of them run under the same number. Otherwise it is the first object that isn't possible, or that runs under
-- the number of an earlier one.
abbrev pub possible_objects_test : ℕ → List SavedObject → Result (Unit {0}) SavedFault
possible_objects_test runs objects =
    error_at faults.Unlawful (earlier (position (λ o. not (is_possible runs o)) objects) (first_repeat is_same_run (map run_number objects)))

-- ---- all tests

-- the tests, except for those of possible objects
abbrev pub draft_test : Saved → Result (Unit {0}) SavedFault
draft_test saved =
    object_count_test saved.objects >>= λ _.
    (names_test saved.objects >>= λ _.
    (distinct_names_test saved.objects >>= λ _.
    ranges_test saved))

abbrev pub verified_saved : Saved → Result Saved SavedFault
verified_saved saved = draft_test saved >>= λ _. (possible_objects_test saved.runs saved.objects >>= λ _. Ok saved)
