-- Whether a dependency blocks an object's check ("Host and Service Dependencies": execution dependencies).
use Rattle.std.specs.Prelude.{ℕ, zero, suc, Bool, false, ◌&&◌, ◌||◌, List, slice_get, if◌then◌else◌}
use Rattle.std.specs.List.{list_any}
use Rattle.std.specs.Option.{option_map_or}
use Rattle.setup_model.specs.declared.dependency.Criteria.{Criteria}
use Rattle.setup_model.specs.declared.dependency.Dependency.{Dependency}
use Rattle.check_objects.specs.Configuration.{Configuration, dependencies_of, object_count}
use Rattle.check_states.specs.declared.state.State.{State}
use Rattle.check_states.specs.declared.state.State.TheVariants as state
use Rattle.check_states.specs.declared.standing.Standing.{Standing}

-- whether the state is one of the criteria
abbrev pub is_criterion : Criteria → State → Bool
is_criterion c state.Ok = c.ok
is_criterion c state.Warning = c.warning
is_criterion c state.Critical = c.critical
is_criterion c state.Unknown = c.unknown
is_criterion c state.Up = c.ok
is_criterion c state.Down = c.down
is_criterion c state.Unreachable = c.unknown

-- the state that a dependency reads: the last hard state, or with `soft_state_dependencies` the current state
abbrev pub state_for_dependency : Bool → Standing → State
state_for_dependency reads_soft s = if reads_soft then s.state else s.last_hard

-- Whether the standing of a master is among the criteria. A master that was never checked meets only `pending`. (Our own profile.)
abbrev pub meets : Bool → Criteria → Standing → Bool
meets reads_soft c s = if s.checked then is_criterion c (state_for_dependency reads_soft s) else c.pending

-- whether the master of a dependency is in one of its criteria
abbrev pub is_met : Configuration → List Standing → Dependency → Bool
is_met setup standings d = option_map_or (meets setup.options.soft_state_dependencies d.criteria) (slice_get standings d.master) false

-- Whether a dependency fails, given which objects are blocked: its master is in one of its criteria, or it inherits and its master is blocked.
abbrev pub fails : (ℕ → Bool) → Configuration → List Standing → Dependency → Bool
fails blocked setup standings d = is_met setup standings d || (d.inherits && blocked d.master)

-- Whether some dependency of the object fails, if inherited dependencies are followed through this number of masters. A dependency fails if its
-- master is in one of its criteria, or if it inherits and some dependency of its master fails.
abbrev pub is_blocked_within : ℕ → Configuration → List Standing → ℕ → Bool
is_blocked_within zero setup standings n = false
is_blocked_within (suc k) setup standings n =
    list_any (fails (is_blocked_within k setup standings) setup standings) (dependencies_of setup n)

-- Whether some dependency of the object fails. No chain of masters is longer than the number of objects, since no master comes twice.
abbrev pub is_blocked : Configuration → List Standing → ℕ → Bool
is_blocked setup standings n = is_blocked_within (object_count setup) setup standings n
