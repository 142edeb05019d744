-- Orders of numbered objects that agree with their links.
use Rattle.std.specs.Prelude.{◌≡◌, ℕ, ◌+◌, ◌<◌, ◌==◌, ◌&&◌, Bool, true, List, [], ◌∷◌, ◌++◌, length, nat_lt, if◌then◌else◌}
use Rattle.std.specs.List.{list_any, list_all}
use Rattle.setup_order.specs.Cycles.{links_of}

-- whether the object is among these
abbrev pub is_among : List ℕ → ℕ → Bool
is_among objects object = list_any (λ other. other == object) objects

-- how often the object occurs among these
abbrev pub occurrences : ℕ → List ℕ → ℕ
occurrences object [] = 0
occurrences object (other ∷ objects) = (if other == object then 1 else 0) + occurrences object objects

-- each of the objects comes after all that it links to, if those in `placed` came before
abbrev pub is_topological : List (List ℕ) → List ℕ → List ℕ → Bool
is_topological links placed [] = true
is_topological links placed (object ∷ objects) =
    list_all (is_among placed) (links_of links object) && is_topological links (placed ++ object ∷ []) objects

-- an order of the objects, in which each occurs once, after all that it links to
pub record IsOrder (links : List (List ℕ)) (order : List ℕ) : Type 0 where
  pub size : length order ≡ length links
  pub within : list_all (λ object. nat_lt object (length links)) order ≡ true
  pub each_once : (object : ℕ) → object < length links → occurrences object order ≡ 1
  pub after_links : is_topological links [] order ≡ true
