-- Links between numbered objects, their chains and cycles. The links of each object are at its number.
use Rattle.std.specs.Prelude.{◌≡◌, ℕ, zero, suc, ◌<◌, ◌==◌, ◌||◌, Bool, true, false, List, [], length, nat_lt}
use Rattle.std.specs.List.{list_any, list_all, slice_index_or}

-- the links of the object with this number
abbrev pub links_of : List (List ℕ) → ℕ → List ℕ
links_of links object = slice_index_or links object []

-- whether all links go to objects below n
abbrev pub are_within : ℕ → List (List ℕ) → Bool
are_within n links = list_all (λ ls. list_all (λ link. nat_lt link n) ls) links

-- a chain of this many links begins at the object
abbrev pub deep : List (List ℕ) → ℕ → ℕ → Bool
deep links object zero = true
deep links object (suc k) = list_any (λ link. deep links link k) (links_of links object)

-- whether some number below n passes the test
abbrev pub any_below : (ℕ → Bool) → ℕ → Bool
any_below p zero = false
any_below p (suc n) = any_below p n || p n

-- Some object is linked to itself through one link or more. With n objects, a chain of n links passes n + 1 objects, so one of them occurs twice.
unfoldable pub has_cycle : List (List ℕ) → Bool
has_cycle links = any_below (λ object. deep links object (length links)) (length links)

-- this many links lead from the first object to the second
abbrev pub has_path : List (List ℕ) → ℕ → ℕ → ℕ → Bool
has_path links zero object other = object == other
has_path links (suc k) object other = list_any (λ link. has_path links k link other) (links_of links object)

-- the object is reached from itself by one link or more
abbrev pub IsOnCycle : List (List ℕ) → ℕ → Type 0
IsOnCycle links object = (k : ℕ) × (has_path links (suc k) object object ≡ true)

-- some object is reached from itself by one link or more
abbrev pub IsCyclic : List (List ℕ) → Type 0
IsCyclic links = (object : ℕ) × (object < length links) × IsOnCycle links object
