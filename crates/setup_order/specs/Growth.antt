-- How an order of linked objects grows: an object is placed when its last link is to a placed object. A link is open until the object that it leads
-- to is placed and read.
use Rattle.std.specs.Prelude.{◌≡◌, ℕ, ◌+◌, ◌<◌, ◌==◌, true, List, [], ◌∷◌, ◌++◌, length, take, nat_lt, if◌then◌else◌}
use Rattle.std.specs.List.{list_all, slice_index_or}
use Rattle.setup_order.specs.Cycles.{links_of, are_within}
use Rattle.setup_order.specs.Orders.{is_among, occurrences, is_topological}

-- the number of open links of the object with this number
abbrev pub open_link_count : List ℕ → ℕ → ℕ
open_link_count left object = slice_index_or left object 0

-- 1 for 0, otherwise 0
abbrev pub zero_indicator : ℕ → ℕ
zero_indicator count = if count == 0 then 1 else 0

-- the number of objects with an open link
abbrev pub waiting_count : List ℕ → ℕ
waiting_count [] = 0
waiting_count (count ∷ left) = (if count == 0 then 0 else 1) + waiting_count left

-- the numbers, from this one on, of the objects without an open link
abbrev pub free_objects_from : ℕ → List ℕ → List ℕ
free_objects_from object [] = []
free_objects_from object (count ∷ left) = if count == 0 then object ∷ free_objects_from (object + 1) left else free_objects_from (object + 1) left

-- the number of links that lead to an object that isn't among these
abbrev pub unplaced_link_count : List ℕ → List ℕ → ℕ
unplaced_link_count placed [] = 0
unplaced_link_count placed (link ∷ links) = (if is_among placed link then 0 else 1) + unplaced_link_count placed links

-- One link was closed of each object in `closing`, and each object whose last link it was joined the order.
pub record ClosesLinks (closing left order left' order' : List ℕ) : Type 0 where
  pub additions : List ℕ
  pub order_is : order' ≡ order ++ additions
  pub size : length left' ≡ length left
  pub counts : (object : ℕ) → object < length left → open_link_count left' object + occurrences object closing ≡ open_link_count left object
  pub once : (object : ℕ) → object < length left → occurrences object additions + zero_indicator (open_link_count left object) ≡ zero_indicator (open_link_count left' object)
  pub within : list_all (λ object. nat_lt object (length left)) additions ≡ true
  pub free : list_all (λ object. open_link_count left' object == 0) additions ≡ true
  pub total : length additions + waiting_count left' ≡ waiting_count left

-- the object was added to the list of each object that it links to, once for each link
pub record AddsDependent (object : ℕ) (links : List ℕ) (old new : List (List ℕ)) : Type 0 where
  pub size : length new ≡ length old
  pub counts : (link other : ℕ) → link < length old
      → occurrences other (links_of new link) ≡ occurrences other (links_of old link) + (if other == object then occurrences link links else 0)
  pub within : (n : ℕ) → object < n → are_within n old ≡ true → are_within n new ≡ true

-- The dependents of each of n objects are the objects that link to it, once for each link.
pub record HasDependents (n : ℕ) (links dependents : List (List ℕ)) : Type 0 where
  pub size : length dependents ≡ n
  pub counts : (link object : ℕ) → link < n → occurrences object (links_of dependents link) ≡ occurrences link (links_of links object)
  pub within : are_within n dependents ≡ true

-- The order so far, after the dependents of its first `place` objects were read.
pub record IsOrderPrefix (links : List (List ℕ)) (place : ℕ) (left order : List ℕ) : Type 0 where
  pub size : length left ≡ length links
  pub counts : (object : ℕ) → object < length links → open_link_count left object ≡ unplaced_link_count (take place order) (links_of links object)
  pub once : (object : ℕ) → object < length links → occurrences object order ≡ zero_indicator (open_link_count left object)
  pub within : list_all (λ object. nat_lt object (length links)) order ≡ true
  pub after_links : is_topological links [] order ≡ true
  pub total : length order + waiting_count left ≡ length links
