-- The position of each number in the heap, and the time at this position.
use Rattle.std.specs.Prelude.{◌≡◌, ◌≢◌, ℕ, ◌<◌, ◌≤◌, ◌^◌, ◌==◌, if◌then◌else◌, List, length, map, Option, Some, None, option_map, slice_index_or}
use Rattle.check_queue.specs.declared.entry.Entry.{Entry}
use Rattle.check_queue.specs.Entries.{entry_at}

-- the stored position of a number that isn't in the heap
abbrev pub absent : ℕ
absent = 4294967295

-- the stored position of a number
abbrev pub position_at : List ℕ → ℕ → ℕ
position_at positions number = slice_index_or positions number absent

-- the position in the heap for a stored position, if there is one
abbrev pub position_from : ℕ → Option ℕ
position_from position = if position == absent then None else Some position

-- the position of a number, if it is in the heap
abbrev pub position_of : List ℕ → ℕ → Option ℕ
position_of positions number = position_from (position_at positions number)

-- the time of the entry at a stored position
abbrev pub time_from : List Entry → ℕ → Option ℕ
time_from entries position = option_map (λ i. (entry_at entries i).time) (position_from position)

-- the time of each number, by number
abbrev pub times_in : List Entry → List ℕ → List (Option ℕ)
times_in entries positions = map (time_from entries) positions

-- number k has its entry at position p, one of the first n and not the hole
pub record IsAt (entries : List Entry) (n hole k p : ℕ) : Type 0 where
  pub within : p < n
  pub not_at_hole : p ≢ hole
  pub number : (entry_at entries p).number ≡ k

-- The first n entries, except for the one at the hole, agree with the positions of their numbers. No other number has a position. If there is no
-- hole, `hole` is n.
pub record AreLinked (entries : List Entry) (positions : List ℕ) (n hole : ℕ) : Type 0 where
  pub capacity : n ≤ length entries
  pub bounded : length entries < 2 ^ 32
  pub sizes : length positions ≡ length entries
  pub position : (i : ℕ) → i < n → i ≢ hole → position_at positions (entry_at entries i).number ≡ i
  pub entry : (k : ℕ) → position_at positions k ≢ absent → IsAt entries n hole k (position_at positions k)

-- a number below the bound that isn't in the heap
pub record IsAbsent (positions : List ℕ) (number : ℕ) : Type 0 where
  pub below : number < length positions
  pub is : position_at positions number ≡ absent
