-- A standing as one word, for a board that is read without the lock. (Our own profile.)
use Rattle.std.specs.Prelude.{ℕ, ◌+◌, ◌*◌, ◌/◌, ◌%◌, ◌==◌, Bool, nat_lt, if◌then◌else◌}
use Rattle.std.specs.Prelude.{Option, None, option_map, option_and_then}
use Rattle.check_states.specs.declared.state.State.{State}
use Rattle.check_states.specs.declared.standing.Kind.TheVariants as kind
use Rattle.check_states.specs.declared.standing.Standing.{Standing}
use Rattle.check_states.specs.Numbers.{kind_number, state_of_number, state_number}

-- ---- a standing's word

abbrev pub flag : Bool → ℕ
flag b = if b then 1 else 0

-- Bit 0 says whether the object is checked. Bits 1 to 3 are the state, and bit 4 says whether it is hard. Bits 5 to 12 are the attempt, bits 13 to 15
-- the last hard state. Bit 16 says whether the object flaps.
abbrev pub word_of_standing : Standing → ℕ
word_of_standing s =
    flag s.checked + 2 * state_number s.state + 16 * kind_number s.kind + 32 * s.attempt + 8192 * state_number s.last_hard + 65536 * flag s.flapping

-- ---- the standing of a word

-- whether this bit is set
abbrev pub has_bit : ℕ → ℕ → Bool
has_bit word weight = word / weight % 2 == 1

-- the standing of a word with these two states
abbrev pub standing_with_states : ℕ → State → State → Standing
standing_with_states word current last_hard = record {
  checked = has_bit word 1;
  state = current;
  kind = if has_bit word 16 then kind.Hard else kind.Soft;
  attempt = word / 32 % 256;
  last_hard = last_hard;
  flapping = has_bit word 65536;
}

-- the standing of a word, if there is one: the numbers of both states are below 7, and no bit above the first 17 is set
abbrev pub standing_of_word : ℕ → Option Standing
standing_of_word word =
    if nat_lt word 131072
    then option_and_then (λ current. option_map (standing_with_states word current) (state_of_number (word / 8192 % 8))) (state_of_number (word / 2 % 8))
    else None
