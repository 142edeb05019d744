-- The place of each object of a setup in a saved state.
use Rattle.std.specs.Prelude.{ℕ, ◌≡◌, ◌<◌, List, length, find, bytes_eq, Option, None, option_and_then, slice_get}
use Rattle.std.specs.List.{slice_index_or}
use Rattle.check_objects.specs.Configuration.{Configuration, name_of, object_count}
use Rattle.check_saved_state.specs.Saved.{SavedObject}

-- For each object of the setup by number, the place of the saved object with its name among some of the saved objects.
pub record AreSavedIndexes (setup : Configuration) (objects some : List SavedObject) (saved_indexes : List (Option ℕ)) : Type 0 where
  pub one_each : length saved_indexes ≡ object_count setup
  pub found : (number : ℕ) → number < object_count setup
      → option_and_then (slice_get objects) (slice_index_or saved_indexes number None) ≡ find (λ o. bytes_eq (name_of setup number) o.name) some
