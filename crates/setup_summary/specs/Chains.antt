-- The longest chain of links.
use Rattle.std.specs.Prelude.{◌≡◌, ℕ, zero, suc, ◌+◌, ◌<◌, ◌≤◌, max, Bool, true, false, List, [], ◌∷◌, length, if◌then◌else◌}
use Rattle.std.specs.List.{slice_index_or}
use Rattle.setup_order.specs.Cycles.{deep, any_below}

-- whether a chain of this number of links begins at some object
abbrev pub has_chain : List (List ℕ) → ℕ → Bool
has_chain links count = any_below (λ object. deep links object count) (length links)

-- the greatest number from 1 to n that passes the test, or 0
abbrev pub greatest_up_to : (ℕ → Bool) → ℕ → ℕ
greatest_up_to test zero = 0
greatest_up_to test (suc n) = if test (suc n) then suc n else greatest_up_to test n

-- The number of links in the longest chain, but at most the number of objects. If no links lead back to an object, every chain is
-- shorter than that.
unfoldable pub longest_chain : List (List ℕ) → ℕ
longest_chain links = greatest_up_to (has_chain links) (length links)

-- ---- by depths, as the code stores them

-- the depth of the object with this number, among these
abbrev pub depth_at : List ℕ → ℕ → ℕ
depth_at depths object = slice_index_or depths object 0

-- a chain of this number of links begins at the object, and no longer one
pub record IsDepth (links : List (List ℕ)) (object depth : ℕ) : Type 0 where
  pub chain : deep links object depth ≡ true
  pub none_longer : deep links object (suc depth) ≡ false

pub record HasDepths (links : List (List ℕ)) (depths : List ℕ) : Type 0 where
  pub size : length depths ≡ length links
  pub bounded : (object : ℕ) → depth_at depths object ≤ length links
  pub each : (object : ℕ) → object < length links → IsDepth links object (depth_at depths object)

-- one more than the greatest of the depths of these, or 0
abbrev pub depth_over : List ℕ → List ℕ → ℕ
depth_over depths [] = 0
depth_over depths (link ∷ links) = max (depth_at depths link + 1) (depth_over depths links)

-- the greatest of these, or 0
abbrev pub greatest_of : List ℕ → ℕ
greatest_of [] = 0
greatest_of (depth ∷ depths) = max depth (greatest_of depths)

-- there is a chain of this number of links; one of 0 links is everywhere
abbrev pub HasChainOfLength : List (List ℕ) → ℕ → Type 0
HasChainOfLength links zero = Unit {0}
HasChainOfLength links (suc count) = has_chain links (suc count) ≡ true
