-- The queue of the code, as contracts see it.
use Rattle.std.specs.Prelude.{ℕ, List, Option}
use Rattle.check_queue.specs.Heap.{IsOrdered}
use Rattle.check_queue.specs.Positions.{times_in}
use Rattle.check_queue.specs.declared.queue.Queue.TheInside.{Inside}

-- the time of each number, by number
abbrev pub times_of : Inside → List (Option ℕ)
times_of q = times_in q.entries.items q.positions.items

-- the facts of the fields of every queue
abbrev pub IsWellFormed : Inside → Type 0
IsWellFormed q = IsOrdered q.entries.items q.positions.items q.len
