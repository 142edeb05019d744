-- The words of flapping, and the letters of results. The words and the letters of states are those of the line that reports a standing.
use Rattle.std.specs.Prelude.{ℕ, Bool, true, false, List, map, Option, Some, None, codes, bytes_eq, if◌then◌else◌}
use Rattle.std.specs.List.{list_all}
use Rattle.check_states.specs.declared.state.State.{State}
use Rattle.check_states.specs.Words.{is_letter, state_of_letter, state_letter}

-- ---- flapping

abbrev pub flapping_word : Bool → List ℕ
flapping_word true = codes "FLAPPING"
flapping_word false = codes "STEADY"

-- whether this word means flapping
abbrev pub flapping_of_word : List ℕ → Option Bool
flapping_of_word word =
    if bytes_eq word (codes "FLAPPING") then Some true
    else if bytes_eq word (codes "STEADY") then Some false
    else None

-- ---- results, one letter for each

-- the letters of some results, in their order
abbrev pub letters_of : List State → List ℕ
letters_of results = map state_letter results

-- whether each byte is a letter of a result
abbrev pub are_letters : List ℕ → Bool
are_letters text = list_all is_letter text

-- the text, if each of its bytes is a letter of a result
abbrev pub only_letters : List ℕ → Option (List ℕ)
only_letters text = if are_letters text then Some text else None

-- the results of a host, or of a service, with these letters
abbrev pub results_of_letters : Bool → List ℕ → List State
results_of_letters host text = map (state_of_letter host) text
