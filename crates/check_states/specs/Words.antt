-- The words of states and kinds, and a letter for each state of an object.
use Rattle.std.specs.Prelude.{ℕ, ◌==◌, ◌||◌, Bool, List, [], ◌∷◌, Option, codes, bytes_eq, find, get_or, if◌then◌else◌}
use Rattle.check_states.specs.declared.standing.Kind.{Kind}
use Rattle.check_states.specs.declared.standing.Kind.TheVariants as kind
use Rattle.check_states.specs.declared.state.State.{State}
use Rattle.check_states.specs.declared.state.State.TheVariants as state
use Rattle.check_states.specs.Numbers.{all_states, state_number}

-- ---- words

abbrev pub state_word : State → List ℕ
state_word state.Ok = codes "OK"
state_word state.Warning = codes "WARNING"
state_word state.Critical = codes "CRITICAL"
state_word state.Unknown = codes "UNKNOWN"
state_word state.Up = codes "UP"
state_word state.Down = codes "DOWN"
state_word state.Unreachable = codes "UNREACHABLE"

-- the state with this word
abbrev pub state_of_word : List ℕ → Option State
state_of_word word = find (λ s. bytes_eq word (state_word s)) all_states

abbrev pub kind_word : Kind → List ℕ
kind_word kind.Soft = codes "SOFT"
kind_word kind.Hard = codes "HARD"

-- the kind with this word
abbrev pub kind_of_word : List ℕ → Option Kind
kind_of_word word = find (λ k. bytes_eq word (kind_word k)) (kind.Soft ∷ kind.Hard ∷ [])

-- ---- letters

-- the letter of a state: o, w, c, u for a service, and o, d, u for a host, in the order of their numbers
abbrev pub state_letter : State → ℕ
state_letter s = get_or (codes "owcuodu") (state_number s) 0

-- whether a byte is the letter of a state, of either sort of object
abbrev pub is_letter : ℕ → Bool
is_letter b = b == 111 || b == 119 || b == 117 || b == 99 || b == 100

-- The state of a host, or of a service, with this letter. A letter of the other sort is a state of that sort.
abbrev pub state_of_letter : Bool → ℕ → State
state_of_letter host letter =
    if letter == 111 then (if host then state.Up else state.Ok)
    else if letter == 119 then state.Warning
    else if letter == 117 then (if host then state.Unreachable else state.Unknown)
    else if letter == 99 then state.Critical
    else state.Down
