-- What holds of each state holds of all.
use Rattle.check_states.specs.declared.state.State.{State}
use Rattle.check_states.specs.declared.state.State.TheVariants as state

pub each_state : (P : State → Type 0) → P state.Ok → P state.Warning → P state.Critical → P state.Unknown → P state.Up → P state.Down → P state.Unreachable
    → (s : State) → P s
each_state P ok warning critical unknown up down unreachable state.Ok = ok
each_state P ok warning critical unknown up down unreachable state.Warning = warning
each_state P ok warning critical unknown up down unreachable state.Critical = critical
each_state P ok warning critical unknown up down unreachable state.Unknown = unknown
each_state P ok warning critical unknown up down unreachable state.Up = up
each_state P ok warning critical unknown up down unreachable state.Down = down
each_state P ok warning critical unknown up down unreachable state.Unreachable = unreachable
