-- The heap: the order of its entries by position. The children of position i are 2 * i + 1 and 2 * i + 2.
use Rattle.std.specs.Prelude.{◌≢◌, ℕ, ◌+◌, ◌*◌, ◌<◌, ◌≤◌, List}
use Rattle.check_queue.specs.declared.entry.Entry.{Entry}
use Rattle.check_queue.specs.Entries.{IsNotBefore, entry_at}
use Rattle.check_queue.specs.Positions.{AreLinked}

-- no entry among the first n comes before its parent
pub record IsHeap (entries : List Entry) (n : ℕ) : Type 0 where
  pub order : (i j : ℕ) → 2 * i + 1 ≤ j → j ≤ 2 * i + 2 → j < n → IsNotBefore (entry_at entries j) (entry_at entries i)

-- a heap, if the entry at the hole were removed and its children were put below its parent
pub record IsHeapAround (entries : List Entry) (n hole : ℕ) : Type 0 where
  pub order : (i j : ℕ) → i ≢ hole → j ≢ hole → 2 * i + 1 ≤ j → j ≤ 2 * i + 2 → j < n → IsNotBefore (entry_at entries j) (entry_at entries i)
  pub across : (i j : ℕ) → 2 * i + 1 ≤ hole → hole ≤ 2 * i + 2 → 2 * hole + 1 ≤ j → j ≤ 2 * hole + 2 → j < n
      → IsNotBefore (entry_at entries j) (entry_at entries i)

-- no child of the hole comes before held
pub record FitsBelow (entries : List Entry) (n hole : ℕ) (held : Entry) : Type 0 where
  pub below : (j : ℕ) → 2 * hole + 1 ≤ j → j ≤ 2 * hole + 2 → j < n → IsNotBefore (entry_at entries j) held

-- a heap, and the position of each number
pub record IsOrdered (entries : List Entry) (positions : List ℕ) (n : ℕ) : Type 0 where
  pub heap : IsHeap entries n
  pub linked : AreLinked entries positions n n

-- the same with a hole
pub record HasHole (entries : List Entry) (positions : List ℕ) (n hole : ℕ) : Type 0 where
  pub inside : hole < n
  pub around : IsHeapAround entries n hole
  pub linked : AreLinked entries positions n hole

-- c is the child of hole that comes first
pub record IsFirstChild (entries : List Entry) (n hole c : ℕ) : Type 0 where
  pub from : 2 * hole + 1 ≤ c
  pub to : c ≤ 2 * hole + 2
  pub within : c < n
  pub first : (j : ℕ) → 2 * hole + 1 ≤ j → j ≤ 2 * hole + 2 → j < n → IsNotBefore (entry_at entries j) (entry_at entries c)
