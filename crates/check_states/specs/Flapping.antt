-- Flapping: an object whose state keeps changing. ("Detection and Handling of State Flapping". The number of results that count, the weight of a
-- change, and a start at the high threshold are our own profile.)
use Rattle.std.specs.Prelude.{ℕ, ◌≡◌, ◌≤◌, ◌+◌, ◌*◌, ◌==◌, Bool, true, not, List, [], ◌∷◌, ◌++◌, length, zip, drop, nat_lt, nat_le, if◌then◌else◌, ◌/◌}
use Rattle.std.specs.List.{enumerate_from, list_all, sum_by}
use Rattle.circular_buffer.specs.Buffer.{keep_last}
use Rattle.check_states.specs.declared.state.State.{State}
use Rattle.check_states.specs.State.{is_another_state, is_of_sort}

-- ---- the stored results

-- the stored results after one more: the last 21, the oldest first
abbrev pub results_after : List State → State → List State
results_after results found = keep_last 21 (results ++ found ∷ [])

-- An object, a host or a service, can have these results: at most 21, each a state of its sort.
pub record AreResultsFor (host : Bool) (results : List State) : Type 0 where
  pub bounded : length results ≤ 21
  pub sort : list_all (is_of_sort host) results ≡ true

-- ---- the percent

-- the weight of change i; the oldest is change 0, and newer changes weigh more
abbrev pub weight_of_change : ℕ → ℕ
weight_of_change i = 57 + 2 * i

-- the total weight of all changes among 21 results
abbrev pub weight_of_all : ℕ
weight_of_all = 1520

-- the weight of the change between a result and the next one; 0 if both are the same state
abbrev pub weight_between : ℕ × (State × State) → ℕ
weight_between pair = if is_another_state pair.1.1 pair.1.0 then weight_of_change pair.0 else 0

-- the changes: each result with the next one, numbered from the oldest
abbrev pub pairs_of : List State → List (ℕ × (State × State))
pairs_of results = enumerate_from 0 (zip results (drop 1 results))

-- the total weight of the changes that took place
abbrev pub changes_weight : List State → ℕ
changes_weight results = sum_by weight_between (pairs_of results)

-- the weight of these changes as a share of the weight of all 20, in whole percents; 0 until there are 21 results
abbrev pub percent_of : List State → ℕ
percent_of results = if length results == 21 then 100 * changes_weight results / weight_of_all else 0

-- ---- whether an object flaps

-- Whether an object with these results flaps now. An object that didn't flap begins at the high threshold. An object that did flap stops below the
-- low threshold.
abbrev pub is_flapping : List State → Bool → ℕ → ℕ → Bool
is_flapping results was low high = if was then not (nat_lt (percent_of results) low) else nat_le high (percent_of results)
