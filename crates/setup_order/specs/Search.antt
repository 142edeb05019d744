-- The search for a cycle: a walk among objects that wait returns to an object that it has passed.
use Rattle.std.specs.Prelude.{◌≡◌, ℕ, zero, suc, ◌<◌, ◌≤◌, Bool, true, List, get_or, length, nat_lt}
use Rattle.std.specs.List.{list_any}
use Rattle.setup_order.specs.Cycles.{links_of}
use Rattle.setup_order.specs.Growth.{open_link_count}
use Rattle.setup_order.specs.Orders.{is_among}

-- whether the object has an open link
abbrev pub is_waiting : List ℕ → ℕ → Bool
is_waiting left object = nat_lt 0 (open_link_count left object)

-- each object that waits is linked to an object that waits
pub record IsStuck (links : List (List ℕ)) (left : List ℕ) : Type 0 where
  pub size : length left ≡ length links
  pub linked : (object : ℕ) → is_waiting left object ≡ true → list_any (is_waiting left) (links_of links object) ≡ true

-- the next object after this one; an object that isn't in the list is its own next one
abbrev pub step : List ℕ → ℕ → ℕ
step next object = get_or next object object

-- the object that this many steps reach from an object
abbrev pub steps : List ℕ → ℕ → ℕ → ℕ
steps next object zero = object
steps next object (suc k) = step next (steps next object k)

-- For each object below `count`: if it is linked to an object that waits, the next object is such an object.
pub record AreSuccessorsBelow (count : ℕ) (links : List (List ℕ)) (left next : List ℕ) : Type 0 where
  pub size : length next ≡ count
  pub linked : (object : ℕ) → object < count → list_any (is_waiting left) (links_of links object) ≡ true → is_among (links_of links object) (step next object) ≡ true
  pub waiting : (object : ℕ) → object < count → list_any (is_waiting left) (links_of links object) ≡ true → is_waiting left (step next object) ≡ true

-- the same for all objects
abbrev pub AreSuccessors : List (List ℕ) → List ℕ → List ℕ → Type 0
AreSuccessors links left next = AreSuccessorsBelow (length links) links left next

-- the object is reached from itself by at least one step, and by at most as many steps as there are objects
pub record ReturnsToItself (next : List ℕ) (object : ℕ) : Type 0 where
  pub count : ℕ
  pub nonempty : 0 < count
  pub bounded : count ≤ length next
  pub back : steps next object count ≡ object

-- the objects that a walk from this one passes until it returns for the first time
pub record IsClosedWalk (next : List ℕ) (object : ℕ) (cycle : List ℕ) : Type 0 where
  pub nonempty : 0 < length cycle
  pub each : (index : ℕ) → index < length cycle → get_or cycle index 0 ≡ steps next object index
  pub back : steps next object (length cycle) ≡ object
  pub first : (k : ℕ) → 0 < k → k < length cycle → steps next object k ≡ object → ⊥
