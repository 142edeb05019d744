-- The search through dependencies that inherit: the masters that are marked, and those that wait.
use Rattle.std.specs.Prelude.{ℕ, ◌≡◌, ◌==◌, ◌&&◌, ◌||◌, Bool, true, false, not, List, length}
use Rattle.std.specs.List.{list_all, list_any, slice_index_or}
use Rattle.setup_model.specs.declared.dependency.Dependency.{Dependency}
use Rattle.setup_order.specs.Orders.{is_among}

-- whether the object with this number is marked
abbrev pub is_marked : List Bool → ℕ → Bool
is_marked marks object = slice_index_or marks object false

-- whether each master from which these dependencies inherit is marked
abbrev pub are_marked : List Dependency → List Bool → Bool
are_marked dependencies marks = list_all (λ d. not d.inherits || is_marked marks d.master) dependencies

-- whether one of these dependencies inherits from the object
abbrev pub inherits_from : List Dependency → ℕ → Bool
inherits_from dependencies object = list_any (λ d. d.inherits && (d.master == object)) dependencies

-- Some objects were marked. These dependencies inherit from each of them.
pub record HasMarked (dependencies : List Dependency) (marks marks' : List Bool) : Type 0 where
  pub size : length marks' ≡ length marks
  pub kept : (object : ℕ) → is_marked marks object ≡ true → is_marked marks' object ≡ true
  pub inherited : (object : ℕ) → is_marked marks object ≡ false → is_marked marks' object ≡ true → inherits_from dependencies object ≡ true

-- Those that were marked wait too, and everything that waits is still marked.
pub record HasQueued (marks marks' : List Bool) (waiting waiting' : List ℕ) : Type 0 where
  pub kept : (object : ℕ) → is_among waiting object ≡ true → is_among waiting' object ≡ true
  pub added : (object : ℕ) → is_marked marks object ≡ false → is_marked marks' object ≡ true → is_among waiting' object ≡ true
  pub marked : list_all (is_marked marks) waiting ≡ true → list_all (is_marked marks') waiting' ≡ true
