-- The last results of an object, as they are stored.
use Rattle.std.specs.Prelude.{◌≡◌, ◌≤◌, List, length}
use Rattle.check_states.specs.declared.state.State.{State}
use Rattle.check_states.specs.declared.last_results.LastResults.TheInside.{Inside}
use Rattle.check_states.specs.Changes.{changes_in, last_after}
use Rattle.check_states.specs.Flapping.{changes_weight}

-- the stored results, the oldest first
abbrev pub results_view : Inside → List State
results_view r = r.kept.items

-- the facts of the fields of every value
pub record IsWellFormed (r : Inside) : Type 0 where
  -- there is room for 21 results
  pub capacity : r.kept.capacity ≡ 21
  pub bounded : length r.kept.items ≤ 21
  pub newest : last_after r.newest r.kept.items ≡ r.newest
  -- if there are 21, the weight and the number of the changes among them
  pub weighed : length r.kept.items ≡ 21 → r.changes.weight ≡ changes_weight r.kept.items
  pub counted : length r.kept.items ≡ 21 → r.changes.count ≡ changes_in r.kept.items
