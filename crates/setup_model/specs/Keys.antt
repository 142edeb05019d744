-- The keys of hosts and services, and whether a key occurs twice.
use Rattle.std.specs.Prelude.{ℕ, ◌&&◌, Bool, false, List, Option, map, length, take, position, slice_get, option_and_then, option_map, unwrap_or, bytes_eq}
use Rattle.std.specs.List.{list_any, range_with_len}
use Rattle.setup_model.specs.ParsedSetup.{ParsedHost, ParsedService}

-- whether the key at this place also occurs before it
abbrev pub is_repeat_at : {K : Type 0} → (K → K → Bool) → List K → ℕ → Bool
is_repeat_at same keys i = unwrap_or (option_map (λ key. list_any (same key) (take i keys)) (slice_get keys i)) false

-- the least place whose key occurs before it
abbrev pub first_repeat : {K : Type 0} → (K → K → Bool) → List K → Option ℕ
first_repeat same keys = position (is_repeat_at same keys) (range_with_len 0 (length keys))

-- the index of the first key that equals the one at this index
abbrev pub first_equal_index : {K : Type 0} → (K → K → Bool) → List K → ℕ → ℕ
first_equal_index same keys i = unwrap_or (option_and_then (λ key. position (same key) keys) (slice_get keys i)) i

-- the keys of hosts: their names
abbrev pub names_of : List ParsedHost → List (List ℕ)
names_of hosts = map (λ h. h.name) hosts

-- the key of a service: its host and its description
abbrev pub key_of : ParsedService → List ℕ × List ℕ
key_of s = (s.host, s.description)

abbrev pub is_same_key : List ℕ × List ℕ → List ℕ × List ℕ → Bool
is_same_key p q = bytes_eq p.0 q.0 && bytes_eq p.1 q.1
