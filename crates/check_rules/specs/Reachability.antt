-- The state of a host, from the return code of its check and from its parents.
use Rattle.std.specs.Prelude.{ℕ, Bool, true, false, not, ◌&&◌, ◌==◌, List, length, slice_get, if◌then◌else◌}
use Rattle.std.specs.List.{list_all}
use Rattle.std.specs.Option.{option_map_or}
use Rattle.check_objects.specs.Configuration.{Configuration, parents_of}
use Rattle.check_states.specs.declared.state.Code.{Code}
use Rattle.check_states.specs.declared.state.Code.TheVariants as code
use Rattle.check_states.specs.declared.state.State.{State}
use Rattle.check_states.specs.declared.state.State.TheVariants as state
use Rattle.check_states.specs.declared.standing.Standing.{Standing}
use Rattle.check_states.specs.Standing.{is_down}

-- Whether a return code is a problem of a host: 2 and 3 are, and 1 if hosts are checked aggressively.
-- ("Host Checks".)
abbrev pub is_problem_of_host : Bool → Code → Bool
is_problem_of_host is_aggressive code.Ok = false
is_problem_of_host is_aggressive code.Warning = is_aggressive
is_problem_of_host is_aggressive code.Critical = true
is_problem_of_host is_aggressive code.Unknown = true

-- whether the host with this number was checked and is DOWN or UNREACHABLE now
abbrev pub is_down_at : List Standing → ℕ → Bool
is_down_at standings number = option_map_or is_down (slice_get standings number) false

-- A host is cut off if it has parents and each of them is DOWN or UNREACHABLE. ("Determining Status and
-- Reachability of Network Hosts".)
abbrev pub is_cut_off : List Standing → List ℕ → Bool
is_cut_off standings parents = not (length parents == 0) && list_all (is_down_at standings) parents

-- The state of a host: UP without a problem, otherwise UNREACHABLE if it is cut off, otherwise DOWN. ("Determining Status and Reachability of Network
-- Hosts".)
abbrev pub host_state_of : Configuration → List Standing → ℕ → Code → State
host_state_of setup standings number code =
    if is_problem_of_host setup.options.use_aggressive_host_checking code
    then (if is_cut_off standings (parents_of setup number) then state.Unreachable else state.Down)
    else state.Up
