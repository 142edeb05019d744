-- The saved state of a scheduler, from which a scheduler can be resumed.
-- (Our own profile; Nagios uses retention files, and reads them again at a restart and a reload.)
use Rattle.std.specs.Prelude.{ℕ, ◌≡◌, ◌⊎◌, ◌^◌, ◌≤◌, Bool, true, List, length, find, bytes_eq}
use Rattle.std.specs.Prelude.{Option, Some, option_map, slice_get}
use Rattle.setup_model.specs.Name.{full_name, is_host_name, is_name}
use Rattle.check_states.specs.declared.state.State as rules
use Rattle.check_states.specs.declared.standing.Standing.{Standing}
use Rattle.check_states.specs.Flapping.{AreResultsFor}
use Rattle.check_states.specs.Standing.{IsStandingFor}
use Rattle.check_saved_state.specs.Scheduling.{Scheduling, is_in_time, is_timed_if_forced}

-- one saved object
pub record SavedObject : Type 0 where
  -- its full name
  pub name : List ℕ
  pub standing : Standing
  -- the stored results, the oldest first
  pub results : List rules.State
  -- its next time, its run, whether it is enabled, and whether its next check is forced
  pub scheduling : Scheduling
  -- its values in its setup: the check interval in milliseconds, the maximum of attempts, and whether it is enabled
  pub interval : ℕ
  pub max_attempts : ℕ
  pub setup_enabled : Bool

pub record Saved : Type 0 where
  -- the moment at which scheduling started
  pub start : ℕ
  -- the number of runs that were handed out
  pub runs : ℕ
  -- in the order of their numbers, if a scheduler made it; any other order has the same meaning
  pub objects : List SavedObject

-- the saved object with this full name, if there is one
abbrev pub saved_by_name : Saved → List ℕ → Option SavedObject
saved_by_name saved name = find (λ o. bytes_eq name o.name) saved.objects

-- ---- the facts of every saved state

-- a host's name; or a host's name and a description around a semicolon
abbrev pub IsFullName : List ℕ → Type 0
IsFullName name =
    (is_name name ≡ true) ⊎ ((host description : List ℕ) × (name ≡ full_name (host, description)) × (is_name host ≡ true) × (is_name description ≡ true))

-- A saved object of a scheduler that handed out this number of runs. It has a full name. Its standing and its results are possible for its sort and
-- its maximum of attempts. Its times are within their limits. Its check interval is at most the longest that a setup can have. If its check is running, its run is one of those that were handed out. It has a next
-- time if it is forced.
pub record IsSavedObject (runs : ℕ) (o : SavedObject) : Type 0 where
  pub name : IsFullName o.name
  pub standing : IsStandingFor (is_host_name o.name) o.max_attempts o.standing
  pub results : AreResultsFor (is_host_name o.name) o.results
  pub in_time : is_in_time o.scheduling ≡ true
  pub timed : is_timed_if_forced o.scheduling ≡ true
  pub numbered : (run : ℕ) → option_map (λ r. r.number) o.scheduling.run ≡ Some run → (1 ≤ run) × (run ≤ runs)
  pub nonzero_attempts : 1 ≤ o.max_attempts
  pub bounded_attempts : o.max_attempts ≤ 255
  pub interval : o.interval ≤ 45411840000000

-- The facts of every saved state. It has at most 4,096 objects, and no two of them have the same name or the same run.
pub record IsSaved (saved : Saved) : Type 0 where
  pub bounded : length saved.objects ≤ 4096
  pub start : saved.start ≤ 2 ^ 60
  pub runs : saved.runs ≤ 2 ^ 60
  pub each : (place : ℕ) (o : SavedObject) → slice_get saved.objects place ≡ Some o → IsSavedObject saved.runs o
  pub apart : (one other : ℕ) (o p : SavedObject) → slice_get saved.objects one ≡ Some o → slice_get saved.objects other ≡ Some p
      → o.name ≡ p.name → one ≡ other
  pub once : (one other run : ℕ) (o p : SavedObject) → slice_get saved.objects one ≡ Some o → slice_get saved.objects other ≡ Some p
      → option_map (λ r. r.number) o.scheduling.run ≡ Some run → option_map (λ r. r.number) p.scheduling.run ≡ Some run → one ≡ other
