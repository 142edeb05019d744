-- A queue as contracts see it: for each number its time, if it has one.
use Rattle.std.specs.Prelude.{ℕ, List, Option, option_map}
use Rattle.std.specs.List.{filter_map, enumerate_from}

-- the pairs of a time and its number, for the times of the numbers from k on
abbrev pub pairs_from : ℕ → List (Option ℕ) → List (ℕ × ℕ)
pairs_from k times = filter_map (λ p. option_map (λ time. (time, p.0)) p.1) (enumerate_from k times)

-- the pairs of a queue
abbrev pub pairs_of : List (Option ℕ) → List (ℕ × ℕ)
pairs_of times = pairs_from 0 times
