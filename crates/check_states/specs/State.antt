-- Return codes and states.
use Rattle.std.specs.Prelude.{Bool, true, false, not, ◌==◌, if◌then◌else◌}
use Rattle.check_states.specs.declared.state.Code.{Code}
use Rattle.check_states.specs.declared.state.Code.TheVariants as code
use Rattle.check_states.specs.declared.state.State.{State}
use Rattle.check_states.specs.declared.state.State.TheVariants as state
use Rattle.check_states.specs.Numbers.{state_number}

-- Whether a state is one of hosts: UP, DOWN and UNREACHABLE are.
abbrev pub is_host_state : State → Bool
is_host_state state.Up = true
is_host_state state.Down = true
is_host_state state.Unreachable = true
is_host_state s = false

-- whether a state is one of hosts, or one of services
abbrev pub is_of_sort : Bool → State → Bool
is_of_sort true state = is_host_state state
is_of_sort false state = not (is_host_state state)

-- Whether a state is a problem: any state except OK and UP. ("State Types".)
abbrev pub is_problem : State → Bool
is_problem state.Ok = false
is_problem state.Up = false
is_problem s = true

-- Whether a state is that of a host that is down: DOWN and UNREACHABLE are. ("Determining Status and
-- Reachability of Network Hosts".)
abbrev pub is_down_state : State → Bool
is_down_state state.Down = true
is_down_state state.Unreachable = true
is_down_state s = false

-- UP for a host, OK for a service
abbrev pub ok_or_up_state : Bool → State
ok_or_up_state is_host = if is_host then state.Up else state.Ok

-- The state of a service by the return code of its check. ("Plugin API".)
abbrev pub service_state_of : Code → State
service_state_of code.Ok = state.Ok
service_state_of code.Warning = state.Warning
service_state_of code.Critical = state.Critical
service_state_of code.Unknown = state.Unknown

-- whether two states are different
abbrev pub is_another_state : State → State → Bool
is_another_state s t = not (state_number s == state_number t)
