use Rattle.std.proofs.Common.{◌≡◌, map, string_bytes, take}
use Rattle.check_states.specs.Words.{state_letter}
use Rattle.check_saved_state.proofs.result_letters.letters_of.Given as goal

abbrev pub invariant-loop-found : goal.invariant-loop-found
invariant-loop-found l = string_bytes l.text ≡ map state_letter (take l.found-index l.results)
