-- The numbers of return codes, states and kinds, in both directions.
use Rattle.std.specs.Prelude.{ℕ, ◌==◌, List, [], ◌∷◌, Option, Some, None, find, if◌then◌else◌}
use Rattle.check_states.specs.declared.standing.Kind.{Kind}
use Rattle.check_states.specs.declared.standing.Kind.TheVariants as kind
use Rattle.check_states.specs.declared.state.Code.{Code}
use Rattle.check_states.specs.declared.state.Code.TheVariants as code
use Rattle.check_states.specs.declared.state.State.{State}
use Rattle.check_states.specs.declared.state.State.TheVariants as state

-- The number of a return code. ("Plugin API".)
abbrev pub code_number : Code → ℕ
code_number code.Ok = 0
code_number code.Warning = 1
code_number code.Critical = 2
code_number code.Unknown = 3

-- the return code of this number, 0 to 3
abbrev pub code_of_number : ℕ → Option Code
code_of_number number = if number == 0 then Some code.Ok else (if number == 1 then Some code.Warning
    else (if number == 2 then Some code.Critical else (if number == 3 then Some code.Unknown else None)))

-- each state has a number of its own
abbrev pub state_number : State → ℕ
state_number state.Ok = 0
state_number state.Warning = 1
state_number state.Critical = 2
state_number state.Unknown = 3
state_number state.Up = 4
state_number state.Down = 5
state_number state.Unreachable = 6

abbrev pub all_states : List State
all_states = state.Ok ∷ state.Warning ∷ state.Critical ∷ state.Unknown ∷ state.Up ∷ state.Down ∷ state.Unreachable ∷ []

-- the state of this number
abbrev pub state_of_number : ℕ → Option State
state_of_number number = find (λ s. state_number s == number) all_states

abbrev pub kind_number : Kind → ℕ
kind_number kind.Soft = 0
kind_number kind.Hard = 1
