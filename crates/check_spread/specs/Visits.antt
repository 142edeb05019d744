-- Counts of the objects that are visited, as the code stores them.
use Rattle.std.specs.Prelude.{◌≡◌, ℕ, ◌+◌, ◌%◌, ◌<◌, ◌&&◌, Bool, List, [], ◌∷◌, length, count_by, nat_lt}
use Rattle.std.specs.List.{enumerate_from, slice_index_or}
use Rattle.setup_model.specs.declared.parsed_setup.Object.{Object}
use Rattle.check_spread.specs.Spread.{is_scheduled}

-- the number of scheduled objects at positions that pass the test; the first of the list is at this position
abbrev pub visit_count : (ℕ → Bool) → ℕ → List Object → ℕ
visit_count test first objects = count_by (λ p. is_scheduled p.1 && test p.0) (enumerate_from first objects)

-- the item of a list at a place
abbrev pub count_at : List ℕ → ℕ → ℕ
count_at counts place = slice_index_or counts place 0

-- for each remainder by the factor, the number of scheduled objects at positions that pass its test
pub record HasCounts (test : ℕ → ℕ → Bool) (factor : ℕ) (objects : List Object) (counts : List ℕ) : Type 0 where
  pub size : length counts ≡ factor
  pub at : (remainder : ℕ) → remainder < factor → count_at counts remainder ≡ visit_count (test remainder) 0 objects

-- positions with a smaller remainder, which are visited before all with this one
abbrev pub has_less_remainder : ℕ → ℕ → ℕ → Bool
has_less_remainder factor remainder position = nat_lt (position % factor) remainder

-- for each count, the sum of this start and of the counts before it
abbrev pub sums_before : ℕ → List ℕ → List ℕ
sums_before start [] = []
sums_before start (count ∷ counts) = start ∷ sums_before (start + count) counts
